-- The docker lines of a row are the concatenation of the row's lines for three visits, one for each
-- start day.
use Rattle.cif_laws.proofs.Common.{◌≡◌, ℕ, false, List, ap, sym, ◌∙◌, subst, Some, append-nil, rules, Option, DockerLine, Row}
use Rattle.std.proofs.Math.Dec.{leb-zero}
use Rattle.docker_laws.specs.Gathering.{gathered}
use Rattle.docker_state.specs.Timetables.{live_in}
use Rattle.train_choice.specs.Known.{PlaceDay}
use Rattle.docker_day.specs.Lines.{Adds}
use Rattle.docker_day.specs.RowViews.{IsLiveView, row_back, row_under_way, view_lines}
use Rattle.docker_day.specs.declared.row_view.RowView.{RowView}
use Rattle.docker_day.specs.Visits.{Visit, visit_back, AreVisits, AddsAt, AddsIf}
use Rattle.docker_day.proofs.LinkLines.{three_backs}
use Rattle.docker_day.proofs.PassedOver.{first_back_alone}

module _ (there : PlaceDay) (view : RowView) where
  abbrev AddsBack : ℕ → List DockerLine → List DockerLine → Type 0
  AddsBack back before after = Adds (live_in there.timetable) (λ trains links. row_back trains links there.place there.day view back) before after

  -- for the visit whose start day is `back` days before the day, `after` is `before` with the row's
  -- lines for this start day appended
  adds_back : (back : ℕ) (visit : Option Visit) (before after : List DockerLine) → visit ≡ visit_back there back → AddsIf visit view before after
      → AddsBack back before after
  adds_back = search (rules, append-nil)

  today_is_back : visit_back there 0 ≡ Some (record { timetable = there.timetable; place = there.place; day = there.day; start = there.day })
  today_is_back = search (rules, leb-zero)

  -- for the visit whose start day is the day itself, `after` is `before` with the row's lines for
  -- this start day appended
  adds_today : (today : Visit) (before after : List DockerLine)
      → today ≡ record { timetable = there.timetable; place = there.place; day = there.day; start = there.day } → AddsAt today view before after
      → AddsBack 0 before after
  adds_today today before after is adds = adds_back 0 (Some today) before after (ap Some is ∙ sym today_is_back) adds

  -- says that `after` is `before` with all docker lines of the row appended
  abbrev AddsRow : List DockerLine → List DockerLine → Type 0
  AddsRow before after = Adds (live_in there.timetable) (λ trains links. view_lines trains links there.place there.day view) before after

module _ (there again : PlaceDay) (view : RowView) (today : Visit) (day_before two_before : Option Visit) where
  -- for the three visits together, `last` is `first` with all docker lines of the row appended
  pub adds_on_visits : (first second third last : List DockerLine) → there ≡ again
      → AreVisits there today day_before two_before → AddsAt today view first second → AddsIf day_before view second third
      → AddsIf two_before view third last → AddsRow again view first last
  adds_on_visits first second third last same are one two three = subst (λ (p : PlaceDay). AddsRow p view first last) same
      (three_backs there.place _ view _ first _ third _ (adds_today there _ today first second are.today_is one)
      (adds_back _ view _ day_before second third are.day_before_is two) (adds_back _ view _ two_before third last are.two_before_is three))

  -- suppose that, according to `row_under_way`, the row can't have lines for a train that started
  -- before the day. Then all lines of the row are the lines for the visit whose start day is the
  -- day itself
  pub adds_today_alone : (first second : List DockerLine) → there ≡ again → AreVisits there today day_before two_before
      → IsLiveView (live_in again.timetable) view → row_under_way again.place view again.day ≡ false → AddsAt today view first second
      → AddsRow again view first second
  adds_today_alone first second same are is_live idle one = first_back_alone _ _ _ _ _ _ is_live idle
      (subst (λ (p : PlaceDay). AddsBack p view 0 first second) same (adds_today _ _ _ first second are.today_is one))

-- if the docker lines of a walk for a `PlaceDay` were appended to a list, so were the lines of this
-- walk for an equal `PlaceDay`
pub gathered_at : (there again : PlaceDay) (walk : List Row) (before after : List DockerLine) → again ≡ there
    → Adds (live_in again.timetable) (λ trains links. gathered trains links again.place again.day walk) before after
    → Adds (live_in there.timetable) (λ trains links. gathered trains links there.place there.day walk) before after
gathered_at = search rules
