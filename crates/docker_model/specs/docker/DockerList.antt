-- The list of a docker: the lines of all events and associations at a place on a day. These
-- definitions accept any number as a day, but dockers are made only for days 0 to 36524.
use Rattle.std.specs.Prelude.{◌≡◌, ℕ, ◌↔◌, ◌⊎◌, List, Contains}
use Rattle.docker_model.specs.records.Record.{columns}
use Rattle.docker_model.specs.file.Change.{ScheduleKey}
use Rattle.docker_model.specs.state.Order.{IsStrictlyAscending}
use Rattle.docker_model.specs.state.Table.{Table}
use Rattle.docker_model.specs.docker.Event.{Event, events_of, event_day, event_line}
use Rattle.docker_model.specs.docker.Choice.{TrainRuns}
use Rattle.docker_model.specs.docker.DockerLine.{DockerLine, line_of_event, docker_line_cmp}
use Rattle.docker_model.specs.docker.Association.{IsAssociationLine}

-- `line` is the docker line of an event of a train. The train runs, and the event is at the place
-- on the day
pub record IsEventLine (live : Table) (place : List ℕ) (day : ℕ) (line : DockerLine) : Type 0 where
  pub start : ℕ
  pub key : ScheduleKey
  pub schedule : List (List ℕ)
  pub train_runs : TrainRuns live key.uid start key schedule
  pub event : Event
  pub among : Contains (events_of schedule) event
  pub here : columns 3 9 (event_line schedule event) ≡ place
  pub today : event_day start schedule event ≡ day
  pub is : line ≡ line_of_event key start schedule event

-- the list has every line for which `IsLine` holds, and no other line, in strictly ascending order.
-- So no line occurs twice
pub record Lists (IsLine : DockerLine → Type 0) (lines : List DockerLine) : Type 0 where
  pub ascending : IsStrictlyAscending docker_line_cmp lines
  pub members : (line : DockerLine) → Contains lines line ↔ IsLine line

-- these lines are the docker of a live table for a place and a day: all event lines and association
-- lines, in the order of docker lines
abbrev pub IsDockerList : Table → List ℕ → ℕ → List DockerLine → Type 0
IsDockerList live place day lines = Lists (λ line. IsEventLine live place day line ⊎ IsAssociationLine live place day line) lines
