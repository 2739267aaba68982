use Rattle.cif_laws.proofs.Common.{ap, sym, ◌∙◌, subst, ScheduleKey, schedule_key, entry_at, Stamped, IsStampOf}
use Rattle.docker_join.specs.Meaning.{entry_meant}
use Rattle.docker_train.proofs.Found.{stamp_is, minute_of_day}
use Rattle.docker_train.proofs.finding.stamped.Goals as goal

pub of-requires : goal.of-requires
of-requires c = minute_of_day _ _ _ c.get.ensures.valid (sym c.in-Some.ensures.entry)

pub returns-clause-stamp : goal.returns-clause-stamp
returns-clause-stamp c =
    subst (λ (it : Stamped). IsStampOf c.args.state.now c.args.schedule it.stamp) (sym c.of.ensures)
    (stamp_is c.args.state.now c.args.schedule (entry_meant c.in-Some.entry.now) c.requires
    (c.in-Some.ensures.entry ∙ ap (λ (key : ScheduleKey). entry_at c.args.state.now (schedule_key key)) c.key.ensures))
