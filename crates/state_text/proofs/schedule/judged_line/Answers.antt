use Rattle.std.proofs.lemmas.Result.{IfErr-weaker}
use Rattle.state_text.specs.FaultMeaning.{cause_meant}
use Rattle.cif_change.specs.Meaning.{schedule_key_meant}
use Rattle.state_text.proofs.ScheduleLemmas.{lines_up_to, line_refused}
use Rattle.state_text.proofs.schedule.judged_line.Goals as goal

pub returns-clause-up_to : goal.returns-clause-up_to
returns-clause-up_to g c = λ ok. lines_up_to c.args.parts.now (schedule_key_meant c.args.key.now) _ _ _ _ c.in-Some.ensures.value c.requires.lines_of
    (c.may_follow.ensures.first c.if-not-may_follow.false) (c.take.ensures.goes_on ok)

pub returns-clause-err : goal.returns-clause-err
returns-clause-err g c = IfErr-weaker c.take.result _ _
    (λ cause. line_refused c.args.parts.now (schedule_key_meant c.args.key.now) c.args.count c.args.lines.now _ _ c.in-Some.ensures.value
    c.requires.lines_of (c.may_follow.ensures.first c.if-not-may_follow.false) (cause_meant cause)) c.take.ensures.err
