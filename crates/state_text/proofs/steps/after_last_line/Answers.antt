use Rattle.cif_laws.proofs.Common.{refl, in_entry, before_line}
use Rattle.docker_join.specs.Meaning.{stamp_meant}
use Rattle.cif_change.specs.Meaning.{schedule_key_meant}
use Rattle.state_text.proofs.StepLemmas.{taken_all, all_there, whole_schedule, entry_judged}
use Rattle.state_text.proofs.steps.after_last_line.Goals as goal

pub give-requires-clause-agrees : goal.give-requires-clause-agrees
give-requires-clause-agrees g c =
    let taken = c.in_ok-judged_line.ensures.taken refl in
    whole_schedule g.format c.args.count _ _ _ _ _ _ _ c.requires.1.0.4 taken _ c.in_ok-take_body.ensures
    (taken_all _ _ _ _ taken c.requires.1.1) (c.in_ok-judged_line.ensures.up_to refl).0

pub returns : goal.returns
returns g c =
    let key = schedule_key_meant c.args.schedule.key in
    let stamp = stamp_meant c.args.schedule.stamp in
    let taken = c.in_ok-judged_line.ensures.taken refl in
    entry_judged g.format (in_entry c.args.count c.args.parts.now (before_line key stamp c.args.schedule.count c.args.lines.now)) _ c.args.bytes.now
    c.give.new.parts c.take_body.new.self c.give.result c.give.ensures.ok c.give.ensures.fresh c.give.ensures.err
    (all_there g.format c.args.count _ _ _ _ _ _ _ c.requires.1.0.4 taken _ c.in_ok-take_body.ensures (taken_all _ _ _ _ taken c.requires.1.1))
    (record { takes = tt; not_bad = λ cause bad. bad.1 (c.in_ok-judged_line.ensures.up_to refl) })
