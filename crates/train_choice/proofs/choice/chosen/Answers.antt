use Rattle.cif_laws.proofs.Common.{subst, IsChosenOn}
use Rattle.docker_state.specs.Timetables.{Timetable, live_in}
use Rattle.train_choice.proofs.choice.chosen.Goals as goal

pub returns : goal.returns
returns c = subst (λ (t : Timetable). IsChosenOn (live_in t) c.args.uid.now c.args.day c.chosen_in.result) c.of.ensures c.chosen_in.ensures
