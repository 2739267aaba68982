-- Whether the next line is taken depends first on the stage and on the line's kind.
use Rattle.cif_laws.proofs.Common.{ap, sym, ◌∙◌, Some, option_map, false≢true, kind_of}
use Rattle.cif_laws.specs.RecordCause.{field_cause, first_line_cause}
use Rattle.cif_change.specs.JourneyRead.{progress_meant, stage_then, stage_meant}
use Rattle.cif_change.proofs.JourneyLemmas.{judged_ok, judged_err, iff_along, first_test, next_test, next_cause, cause_by, out_of_place, faults_line}
use Rattle.cif_change.proofs.progress.Progress.advance.Goals as goal

pub returns-in_default-clause-ok : goal.returns-in_default-clause-ok
returns-in_default-clause-ok c = λ lines has.
    judged_ok c.begin.result (progress_meant c.args.self.now) lines c.args.line.now has c.requires.«record»
    (iff_along _ _ _ (first_test (progress_meant c.args.self.now) lines c.args.line.now (ap (option_map stage_meant) c.in_default.is)) c.begin.ensures.ok)

pub returns-in_default-clause-err : goal.returns-in_default-clause-err
returns-in_default-clause-err c = faults_line c.begin.result (progress_meant c.args.self.now) c.args.line.now λ lines has.
    judged_err c.begin.result (progress_meant c.args.self.now) lines c.args.line.now (first_line_cause c.args.line.now) has c.requires.«record»
    (iff_along _ _ _ (first_test (progress_meant c.args.self.now) lines c.args.line.now (ap (option_map stage_meant) c.in_default.is)) c.begin.ensures.ok)
    (λ i. cause_by (sym (ap (option_map stage_meant) c.in_default.is) i) c.args.line.now) c.begin.ensures.err

pub returns-in-None-clause-err : goal.returns-in-None-clause-err
returns-in-None-clause-err c = λ lines has. out_of_place _ _ _ _ _ has c.requires.«record»
    (ap (option_map stage_meant) c.in-Some.is) c.requires.kind (sym c.in-None.ensures.stage)

pub returns-in-None-clause-ok : goal.returns-in-None-clause-ok
returns-in-None-clause-ok c = λ lines has. (
  λ bad. absurd (false≢true bad),
  λ begins. absurd ((out_of_place _ _ _ _ _ has c.requires.«record»
      (ap (option_map stage_meant) c.in-Some.is) c.requires.kind (sym c.in-None.ensures.stage)).here begins),
)

pub returns-in-Some-after-clause-ok : goal.returns-in-Some-after-clause-ok
returns-in-Some-after-clause-ok c = λ lines has.
    judged_ok c.advance_to.result (progress_meant c.args.self.now) lines c.args.line.now has c.requires.«record»
    (iff_along _ _ _
    (next_test (progress_meant c.args.self.now) lines c.args.line.now (stage_meant c.in-Some-after.next) c.requires.«record»
    (ap (λ stage. stage_then (option_map stage_meant stage) (kind_of c.args.line.now)) c.in-Some.is ∙ ap
    (stage_then (Some (stage_meant c.in-Some.stage))) c.requires.kind ∙ sym c.in-Some-after.ensures.stage))
    (c.advance_to.ensures.ok lines has))

pub returns-in-Some-after-clause-err : goal.returns-in-Some-after-clause-err
returns-in-Some-after-clause-err c = faults_line c.advance_to.result (progress_meant c.args.self.now) c.args.line.now λ lines has.
    let led = ap (λ stage. stage_then (option_map stage_meant stage) (kind_of c.args.line.now)) c.in-Some.is
    ∙ ap (stage_then (Some (stage_meant c.in-Some.stage))) c.requires.kind ∙ sym c.in-Some-after.ensures.stage in
    judged_err c.advance_to.result (progress_meant c.args.self.now) lines c.args.line.now (field_cause c.args.line.now) has c.requires.«record»
    (iff_along _ _ _ (next_test (progress_meant c.args.self.now) lines c.args.line.now (stage_meant c.in-Some-after.next) c.requires.«record» led)
    (c.advance_to.ensures.ok lines has))
    (next_cause (progress_meant c.args.self.now) c.args.line.now (stage_meant c.in-Some-after.next) led) c.advance_to.ensures.err
