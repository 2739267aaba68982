-- The lines that a live row adds to a list of trains. The list is made by a walk over all live rows.
use Rattle.std.specs.Prelude.{ℕ, Bool, ◌&&◌, if◌then◌else◌, List, [], Option, Some, None}
use Rattle.docker_model.specs.file.File.{first_record}
use Rattle.docker_model.specs.state.Row.{Row}
use Rattle.docker_model.specs.docker.Choice.{Train, schedule_runs}
use Rattle.docker_model.specs.docker.DockerText.{ended}
use Rattle.docker_laws.specs.Gathering.{runs_by}
use Rattle.docker_laws.specs.LiveRows.{schedule_of, train_in}
use Rattle.docker_state.specs.Timetables.{Timetable}
use Rattle.docker_model.specs.lists.TrainsText.{is_identified, train_columns}

-- what is listed: the trains of a timetable that have the identity and start on the day
pub record Listing : Type 0 where
  pub timetable : Timetable
  pub identity : List ℕ
  pub day : ℕ

-- whether this schedule runs on the day and has the identity, and the train of its UID runs
-- according to it. `rows` are all live rows
abbrev pub is_listed : List Row → List ℕ → ℕ → Train → Bool
is_listed rows identity day train =
    schedule_runs (first_record train.lines) day && is_identified identity train.lines && runs_by (train_in rows train.key.uid day) train.key

-- the line of a schedule. There is none if there is no schedule, or if no train runs according to
-- the schedule or the train doesn't have the identity
abbrev pub schedule_line : List Row → List ℕ → ℕ → Option Train → List ℕ
schedule_line rows identity day None = []
schedule_line rows identity day (Some train) =
    if is_listed rows identity day train then ended (train_columns day train.key) else []

-- the line of a live row. Only a schedule has a line
abbrev pub row_line : List Row → List ℕ → ℕ → Row → List ℕ
row_line rows identity day row = schedule_line rows identity day (schedule_of row.0 row.1)
