use Rattle.docker_state.specs.Timetables.{live_in}
use Rattle.train_choice.proofs.Along.{good_calling, live_calling}
use Rattle.train_choice.proofs.walks.schedules_at.Goals as goal

pub returns-clause-good : goal.returns-clause-good
returns-clause-good c = good_calling (live_in c.args.timetable.now) c.args.place.now c.calling.result c.calling.ensures.good.bodies c.calling.ensures.rows

pub returns-clause-live : goal.returns-clause-live
returns-clause-live c = live_calling (live_in c.args.timetable.now) c.args.place.now c.calling.result c.calling.ensures.rows
