use Rattle.cif_laws.proofs.Common.{subst}
use Rattle.docker_laws.specs.LiveRows.{HasSchedulesOf}
use Rattle.docker_state.specs.Timetables.{Timetable, live_in}
use Rattle.train_choice.proofs.Along.{chosen_of_uid}
use Rattle.train_choice.proofs.choice.chosen_in.Goals as goal

pub returns : goal.returns
returns c = chosen_of_uid _ _ _ _ _
    (subst (λ (t : Timetable). HasSchedulesOf (live_in t) c.args.uid.now c.schedules_of.result) c.without_hint-from.ensures c.schedules_of.ensures.has)
    c.best_of.ensures
