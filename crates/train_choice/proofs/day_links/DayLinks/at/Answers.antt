use Rattle.cif_laws.proofs.Common.{sym, subst}
use Rattle.docker_state.specs.Timetables.{Timetable, live_in}
use Rattle.train_choice.specs.Known.{AreDayLinks}
use Rattle.train_choice.proofs.Along.{link_of_group, link_of_rows}
use Rattle.train_choice.proofs.day_links.DayLinks.at.Goals as goal

pub invariant_of-result : goal.invariant_of-result
invariant_of-result c =
    subst (λ (t : Timetable). AreDayLinks (live_in t) c.args.place.now c.args.day c.in_ok-best.best) (sym c.again.ensures) (λ group here rows are.
    link_of_rows _ _ _ _ _ are (link_of_group _ _ _ _ _ (c.associations_at.ensures.has group here) (c.in_ok-best.ensures group)))
