use Rattle.cif_laws.proofs.Common.{◌∙◌, on_ok_weaker}
use Rattle.docker_state.specs.Timetables.{live_in}
use Rattle.train_choice.specs.Known.{PlaceDay}
use Rattle.docker_day.proofs.Gathered.{both_gathered}
use Rattle.docker_day.proofs.OnVisits.{gathered_at}
use Rattle.docker_day.proofs.making.add_all.Goals as goal

pub returns : goal.returns
returns c =
    let there : PlaceDay = record { timetable = c.args.timetable.now; place = c.args.place.now; day = c.args.day } in
    on_ok_weaker c.add_rows-2.result
    (λ adds. both_gathered (live_in c.args.timetable.now) c.args.place.now c.args.day c.associations_at.result c.schedules_at.result
    c.args.lines.now.items c.add_rows.new.lines.items c.add_rows-2.new.lines.items c.associations_at.ensures.linked c.schedules_at.ensures.calling
    (gathered_at there c.in_ok-visits.visits c.associations_at.result c.args.lines.now.items c.add_rows.new.lines.items c.in_ok-visits.ensures
    c.in_ok-add_rows.ensures.added)
    (gathered_at there c.add_rows.new.visits c.schedules_at.result c.add_rows.new.lines.items c.add_rows-2.new.lines.items
    (c.add_rows.ensures.same ∙ c.in_ok-visits.ensures) adds))
    c.add_rows-2.ensures.added
