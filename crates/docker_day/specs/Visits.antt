-- A visit is made for a place, a day and one start day. It covers the trains that start on that
-- start day.
use Rattle.std.specs.Prelude.{◌≡◌, ℕ, ◌≤◌, ◌-◌, nat_le, if◌then◌else◌, List, Option, Some, None, ⊤}
use Rattle.docker_state.specs.Timetables.{Timetable, live_in}
use Rattle.docker_model.specs.docker.DockerLine.{DockerLine}
use Rattle.train_choice.specs.Known.{StartDay, PlaceDay}
use Rattle.docker_day.specs.Lines.{Adds}
use Rattle.docker_day.specs.RowViews.{IsLiveView, row_piece}
use Rattle.docker_day.specs.declared.row_view.RowView.{RowView}

-- a visit: a timetable, a place, a day, and the day on which the trains start
pub record Visit : Type 0 where
  pub timetable : Timetable
  pub place : List ℕ
  pub day : ℕ
  pub start : ℕ

-- says that `trains`, `links` and `bases` belong to one visit: each of them has the visit's
-- timetable and start day, and `links` and `bases` have the visit's place. The start day isn't
-- after the day
pub record IsOnePlace (timetable : Timetable) (place : List ℕ) (day start : ℕ) (trains : StartDay) (links bases : PlaceDay) : Type 0 where
  pub past : start ≤ day
  pub trains_are : trains ≡ record { timetable = timetable; day = start }
  pub links_are : links ≡ record { timetable = timetable; place = place; day = start }
  pub bases_are : bases ≡ record { timetable = timetable; place = place; day = start }

-- the visit for the trains that start `back` days before the day, or `None` if that start day would
-- be before day 0
abbrev pub visit_back : PlaceDay → ℕ → Option Visit
visit_back there back =
    if nat_le back there.day
    then Some (record { timetable = there.timetable; place = there.place; day = there.day; start = there.day - back })
    else None

-- says that these are the visits for the trains that start on the day, one day before it and two
-- days before it
pub record AreVisits (there : PlaceDay) (today : Visit) (day_before two_before : Option Visit) : Type 0 where
  pub today_is : today ≡ record { timetable = there.timetable; place = there.place; day = there.day; start = there.day }
  pub day_before_is : day_before ≡ visit_back there 1
  pub two_before_is : two_before ≡ visit_back there 2

-- says that the row is live in the visit's timetable, or that there is no visit
abbrev pub IsLiveAt : Option Visit → RowView → Type 0
IsLiveAt None row = ⊤
IsLiveAt (Some visit) row = IsLiveView (live_in visit.timetable) row

-- says that `after` is `before` with the docker lines of a row for a visit appended
abbrev pub AddsAt : Visit → RowView → List DockerLine → List DockerLine → Type 0
AddsAt visit row before after = Adds (live_in visit.timetable) (λ trains links. row_piece trains links visit.place visit.day row visit.start) before after

-- says that `after` is `before` with the docker lines of a row for a visit appended, or that there
-- is no visit and `after` equals `before`
abbrev pub AddsIf : Option Visit → RowView → List DockerLine → List DockerLine → Type 0
AddsIf None row before after = after ≡ before
AddsIf (Some visit) row before after = AddsAt visit row before after
