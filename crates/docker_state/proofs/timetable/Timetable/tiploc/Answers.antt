use Rattle.cif_laws.proofs.Common.{subst, IsValid}
use Rattle.docker_state.specs.Timetables.{Timetable}
use Rattle.docker_state.proofs.Timetables.{timetable_good}
use Rattle.docker_state.proofs.timetable.Timetable.tiploc.Goals as goal

pub returns-in-Some-clause-good : goal.returns-in-Some-clause-good
returns-in-Some-clause-good c = timetable_good c.args.self.now (subst (λ (t : Timetable). IsValid t.state) c.self.view_is c.self.invariant)

pub returns-in-None-clause-good : goal.returns-in-None-clause-good
returns-in-None-clause-good c = timetable_good c.args.self.now (subst (λ (t : Timetable). IsValid t.state) c.self.view_is c.self.invariant)
