use Rattle.cif_laws.proofs.Common.{ap, sym, ◌∙◌, schedule_runs, first_record}
use Rattle.docker_day.proofs.Adding.{not_added}
use Rattle.docker_day.proofs.PassedOver.{runs_not}
use Rattle.docker_day.proofs.train_lines.add_schedule.Goals as goal

pub returns-then-not-runs_on-clause-added : goal.returns-then-not-runs_on-clause-added
returns-then-not-runs_on-clause-added c = λ rows are. not_added _ _ _ (runs_not _ _ _ _ are c.requires.live
    (sym (c.runs_on.ensures ∙ ap (schedule_runs (first_record c.args.train.now.lines)) c.start.ensures.start) ∙ c.if-not-runs_on.true))
