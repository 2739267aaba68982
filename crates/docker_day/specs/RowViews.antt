-- The typed view of a state's row: a schedule, an association, or neither.
use Rattle.std.specs.Prelude.{ℕ, ◌-◌, Bool, true, nat_le, if◌then◌else◌, List, [], ◌∷◌, map, Option, ⊤}
use Rattle.std.specs.List.{flat_map}
use Rattle.docker_model.specs.file.Change.{Key, association_key, schedule_key, Body, association_body, schedule_body}
use Rattle.docker_model.specs.state.Row.{Row}
use Rattle.docker_model.specs.state.Table.{Table}
use Rattle.docker_model.specs.docker.Choice.{Group}
use Rattle.docker_model.specs.docker.DockerLine.{DockerLine}
use Rattle.docker_model.specs.docker.Choice as choices
use Rattle.docker_laws.specs.LiveRows as live_rows
use Rattle.docker_laws.specs.Gathering.{association_lines, schedule_lines}
use Rattle.train_choice.specs.Along.{IsLiveLink, IsLiveTrain}
use Rattle.train_choice.specs.RecentRuns.{may_run_recently}
use Rattle.docker_day.specs.Lines.{runs_recently, is_under_way, link_here, schedule_piece}
use Rattle.docker_day.specs.declared.row_view.RowView.{RowView}
use Rattle.docker_day.specs.declared.row_view.RowView.TheVariants.{Train, Link, Other}

-- the typed view of a row: a schedule, an association or neither
abbrev pub view_of : Key → Body → RowView
view_of (schedule_key key) (schedule_body lines) = Train (record { key = key; lines = lines })
view_of (association_key key) (association_body line) = Link (record { key = key; line = line })
view_of _ _ = Other

-- the typed view of each row
abbrev pub views_of : List Row → List RowView
views_of rows = map (λ (row : Row). view_of row.0 row.1) rows

-- the typed views of a portion's rows, without the rows' indexes
abbrev pub views_in : List (ℕ × RowView) → List RowView
views_in rows = map (λ (row : ℕ × RowView). row.1) rows

-- says that the schedule or association of the view is in the live table
abbrev pub IsLiveView : Table → RowView → Type 0
IsLiveView live (Train train) = IsLiveTrain live train
IsLiveView live (Link link) = IsLiveLink live link
IsLiveView live Other = ⊤

-- says that each schedule or association of the views is in the live table
abbrev pub AreLiveViews : Table → List RowView → Type 0
AreLiveViews live [] = ⊤
AreLiveViews live (row ∷ rows) = IsLiveView live row × AreLiveViews live rows

-- whether the row may have lines on the day. The result is false only for a schedule that runs
-- neither on the day nor on one of the two days before it
abbrev pub row_runs_recently : RowView → ℕ → Bool
row_runs_recently (Train train) day = runs_recently train.lines day
row_runs_recently (Link link) day = true
row_runs_recently Other day = true

-- whether the row may have lines at the place for a train that started before the day. The result
-- is false only for a schedule whose train can't be under way on the day
abbrev pub row_under_way : List ℕ → RowView → ℕ → Bool
row_under_way place (Train train) day = is_under_way place train.lines day
row_under_way place (Link link) day = true
row_under_way place Other day = true

-- whether the row may have lines on the day. The result is false only for two kinds of schedules.
-- One kind begins after the day. The other kind has the flag `0` for the weekdays of the day and of
-- the two days before it
abbrev pub row_may_run : RowView → ℕ → Bool
row_may_run (Train train) day = may_run_recently train.key train.lines day
row_may_run (Link link) day = true
row_may_run Other day = true

-- the docker lines of a row
abbrev pub view_lines : (List ℕ → ℕ → Option choices.Train) → (Group → ℕ → Option live_rows.Link) → List ℕ → ℕ → RowView → List DockerLine
view_lines trains links place day (Train train) = schedule_lines trains place day train.key train.lines
view_lines trains links place day (Link link) = association_lines trains links place day link.key link.line
view_lines trains links place day Other = []

-- the docker lines of rows, row by row
abbrev pub lines_of : (List ℕ → ℕ → Option choices.Train) → (Group → ℕ → Option live_rows.Link) → List ℕ → ℕ → List RowView → List DockerLine
lines_of trains links place day rows = flat_map (view_lines trains links place day) rows

-- the docker lines of a row for one start day
abbrev pub row_piece : (List ℕ → ℕ → Option choices.Train) → (Group → ℕ → Option live_rows.Link) → List ℕ → ℕ → RowView → ℕ → List DockerLine
row_piece trains links place day (Train train) start = schedule_piece trains place day train.key train.lines start
row_piece trains links place day (Link link) start = link_here trains links place day link start
row_piece trains links place day Other start = []

-- the docker lines of a row for the start day `back` days before the day. There are none if the
-- start day would be before day 0
abbrev pub row_back : (List ℕ → ℕ → Option choices.Train) → (Group → ℕ → Option live_rows.Link) → List ℕ → ℕ → RowView → ℕ → List DockerLine
row_back trains links place day row back = if nat_le back day then row_piece trains links place day row (day - back) else []
