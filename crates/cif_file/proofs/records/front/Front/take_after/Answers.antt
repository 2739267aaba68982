-- After the first lines of a schedule, either the schedule continues or the next record begins another unit. The next record can begin another unit only if the
-- lines are a whole schedule.
use Rattle.cif_laws.proofs.Common.{err_from_is_err_and, ◌∙◌, ap, sym, subst, refl, false≢true, follows_basic}
use Rattle.cif_file.specs.RecordsRead.{IsNoNextCause}
use Rattle.cif_file.proofs.FrontLemmas.{bad_behind, not_whole, anew_goes_on}
use Rattle.cif_file.proofs.UnitLemmas.{unit_begins}
use Rattle.cif_file.proofs.records.front.Front.take_after.Goals as goal

pub returns-then-not-complete-clause-err : goal.returns-then-not-complete-clause-err
returns-then-not-complete-clause-err g c = λ records has. not_whole _ _ _ _ has c.requires.«record» _ _ c.requires.stage
    (λ lines read is. false≢true (sym c.if-not-complete.true ∙ (c.complete.ensures lines read).1 is)) c.requires.kind
    (ap follows_basic c.requires.kind ∙ sym c.if-follows_basic.ensures)

pub returns-in_err-unit-clause-err : goal.returns-in_err-unit-clause-err
returns-in_err-unit-clause-err g c =
    let same = err_from_is_err_and c.from_residual.result c.from_residual.ensures.1 in
    rw (same.1, same.2) (λ records has. subst (IsNoNextCause g.K.ChangeKeeper.wants records c.args.line.now) (sym c.in_err-unit.ensures.err)
    (bad_behind _ _ _ _ has c.requires.«record» _ _ c.requires.stage (λ lines read. (c.complete.ensures lines read).0 c.if-not-complete.false)
    c.requires.kind (ap follows_basic c.requires.kind ∙ sym c.if-follows_basic.ensures) (c.in_err-unit.ensures.bad refl)))

pub begin_anew-requires-clause-unit : goal.begin_anew-requires-clause-unit
begin_anew-requires-clause-unit g c = record { line = c.args.line.now; of = c.in_ok-unit.ensures.ok }

pub returns-clause-read : goal.returns-clause-read
returns-clause-read g c =
    c.in_ok-begin_anew.ensures.read c.args.line.now c.in_ok-unit.ensures.ok (λ lines read. (c.complete.ensures lines read).0 c.if-not-complete.false)

pub returns-in_err-begin_anew-clause-err : goal.returns-in_err-begin_anew-clause-err
returns-in_err-begin_anew-clause-err g c =
    let same = err_from_is_err_and c.from_residual-in_err-begin_anew.result c.from_residual-in_err-begin_anew.ensures.1 in
    let is = c.in_ok-unit.ensures.ok in
    rw (same.1, same.2) (λ records has. (
      c.in_err-begin_anew.ensures.wants,
      anew_goes_on _ _ _ _ has c.requires.«record» _ c.requires.stage (λ lines read. (c.complete.ensures lines read).0 c.if-not-complete.false) is.good_fields
          (unit_begins _ _ is),
    ))

pub returns-then-follows_basic-clause-err : goal.returns-then-follows_basic-clause-err
returns-then-follows_basic-clause-err g c = c.follow.ensures.err c.args.opened c.requires.stage
