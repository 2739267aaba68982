use Rattle.docker_laws.proofs.dockers.IndexedWalk.{of_uid_has}
use Rattle.docker_state.specs.Timetables.{live_in}
use Rattle.train_choice.proofs.Along.{good_of_uid}
use Rattle.train_choice.proofs.walks.schedules_of.Goals as goal

pub returns-clause-has : goal.returns-clause-has
returns-clause-has c = of_uid_has (live_in c.args.from.now) c.args.uid.now c.of_uid.result c.of_uid.ensures.rows

pub returns-clause-good : goal.returns-clause-good
returns-clause-good c = good_of_uid (live_in c.args.from.now) c.args.uid.now c.of_uid.result c.of_uid.ensures.good.bodies c.of_uid.ensures.rows
