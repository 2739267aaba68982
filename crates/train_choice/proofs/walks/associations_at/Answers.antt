use Rattle.docker_laws.proofs.dockers.IndexedWalk.{linked_has}
use Rattle.docker_state.specs.Timetables.{live_in}
use Rattle.train_choice.proofs.Along.{good_linked, live_linked}
use Rattle.train_choice.proofs.walks.associations_at.Goals as goal

pub returns-clause-has : goal.returns-clause-has
returns-clause-has c = λ group here. linked_has (live_in c.args.timetable.now) c.args.place.now c.linked.result group c.linked.ensures.rows here

pub returns-clause-good : goal.returns-clause-good
returns-clause-good c = good_linked (live_in c.args.timetable.now) c.args.place.now c.linked.result c.linked.ensures.good.bodies c.linked.ensures.rows

pub returns-clause-live : goal.returns-clause-live
returns-clause-live c = live_linked (live_in c.args.timetable.now) c.args.place.now c.linked.result c.linked.ensures.rows
