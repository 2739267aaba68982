-- A record that begins no unit or has a bad field is refused.
use Rattle.cif_laws.proofs.Common.{err_from_is_err_and, sym, subst, refl}
use Rattle.cif_file.specs.RecordsRead.{IsNoNextCause}
use Rattle.cif_file.proofs.FrontLemmas.{bad_between, unit_goes_on}
use Rattle.cif_file.proofs.UnitLemmas.{unit_begins}
use Rattle.cif_file.proofs.records.front.Front.take_unit.Goals as goal

pub returns-in_err-unit-clause-err : goal.returns-in_err-unit-clause-err
returns-in_err-unit-clause-err g c =
    let same = err_from_is_err_and c.from_residual.result c.from_residual.ensures.1 in
    rw (same.1, same.2) (λ records has. subst (IsNoNextCause g.K.ChangeKeeper.wants records c.args.line.now) (sym c.in_err-unit.ensures.err)
    (bad_between _ _ _ _ has c.requires.«record» _ c.requires.stage c.requires.kind (c.in_err-unit.ensures.bad refl)))

pub add_unit-requires : goal.add_unit-requires
add_unit-requires g c = record { line = c.args.line.now; of = c.in_ok-unit.ensures.ok }

pub returns-in_err-add_unit-clause-err : goal.returns-in_err-add_unit-clause-err
returns-in_err-add_unit-clause-err g c =
    let same = err_from_is_err_and c.from_residual-in_err-add_unit.result c.from_residual-in_err-add_unit.ensures.1 in
    let is = c.in_ok-unit.ensures.ok in
    rw (same.1, same.2) (λ records has. (
      c.in_err-add_unit.ensures.wants,
      unit_goes_on _ _ _ _ has c.requires.«record» c.requires.stage is.good_fields (unit_begins _ _ is),
    ))
