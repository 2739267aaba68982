use Rattle.cif_laws.proofs.Common.{◌≡◌, List, Some, ap, refl, ◌∙◌, subst, option_map, get, Group, Row, AreRowsOf}
use Rattle.docker_laws.specs.LiveRows.{Link, link_in}
use Rattle.docker_state.specs.Timetables.{live_in}
use Rattle.train_choice.specs.Known.{PlaceDay, group_cmp}
use Rattle.train_choice.proofs.Known.{record_told}
use Rattle.train_choice.proofs.day_links.DayLinks.record.Goals as goal

pub returns-in-Some : goal.returns-in-Some
returns-in-Some c =
    subst (λ (there : PlaceDay). (rows : List Row) → AreRowsOf (live_in there.timetable) rows
    → Some c.line.result.now ≡ option_map (λ (link : Link). link.line) (link_in rows (record {
      base = c.args.base.now;
      associated = c.args.associated.now;
      location = there.place;
      suffix = c.args.suffix;
    }) there.day)) c.self.view_is
    (record_told (live_in c.self.inside.timetable) c.self.inside.place c.self.inside.day c.self.inside.best (record {
      base = c.args.base.now;
      associated = c.args.associated.now;
      location = c.self.inside.place;
      suffix = c.args.suffix;
    }) c.in-Some.link.now c.line.result.now c.self.invariant refl
    (c.in-Some.ensures.value ∙ ap (λ (group : Group). get group_cmp c.self.inside.best group) c.at-group.ensures) c.line.ensures.line)
