-- Whether a record may come next depends on how far the reader has come in the file.
use Rattle.cif_laws.proofs.Common.{◌∙◌, ap, sym, refl, option_map}
use Rattle.cif_line.specs.Kind.{meaning}
use Rattle.cif_file.proofs.AnswerLemmas.{if_err_by}
use Rattle.cif_file.proofs.FrontLemmas.{no_kind, ended_iff, on_ok_one}
use Rattle.cif_file.proofs.records.front.Front.take.Goals as goal

pub returns-in_default-clause-err : goal.returns-in_default-clause-err
returns-in_default-clause-err g c = λ records has unended. no_kind _ _ _ _ has c.bytes-record.ensures.«record» unended
    (sym c.kind.ensures ∙ ap (option_map meaning) c.in_default.is)

pub returns-in-BeforeHeader-clause-err : goal.returns-in-BeforeHeader-clause-err
returns-in-BeforeHeader-clause-err g c = if_err_by c.take_header.result (λ cause told. λ records has unended. told records has) c.take_header.ensures.err

pub returns-in-BetweenUnits-clause-err : goal.returns-in-BetweenUnits-clause-err
returns-in-BetweenUnits-clause-err g c = if_err_by c.take_unit.result (λ cause told. λ records has unended. told records has) c.take_unit.ensures.err

pub returns-in-InSchedule-clause-err : goal.returns-in-InSchedule-clause-err
returns-in-InSchedule-clause-err g c = if_err_by c.take_after.result (λ cause told. λ records has unended. told records has) c.take_after.ensures.err

pub returns-in-AfterEnd-clause-err : goal.returns-in-AfterEnd-clause-err
returns-in-AfterEnd-clause-err g c = λ records has unended. absurd (unended ((ended_iff _ _ _ _ c.in-AfterEnd.is has).0 refl))

pub returns-in-BeforeHeader-clause-read : goal.returns-in-BeforeHeader-clause-read
returns-in-BeforeHeader-clause-read g c = on_ok_one c.take_header.result c.take_header.ensures.read (λ taken. λ records has counted. taken records has)
