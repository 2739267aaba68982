-- The lines of a docker, gathered by a walk over the rows of a live table: the lines of each
-- schedule and of each association. A train can have an event on the day only if it starts on that
-- day or on one of the two days before it.
use Rattle.std.specs.Prelude.{ℕ, List, ◌⊎◌, ◌-◌, nat_le, [], ◌∷◌, map, filter, ◌&&◌, ◌==◌, Bool}
use Rattle.std.specs.Prelude.{false, Option, Some, None, if◌then◌else◌, codes, not, ◌≡◌, Contains}
use Rattle.std.specs.List.{flat_map}
use Rattle.std.specs.Str.{bytes_eq}
use Rattle.std.specs.Ordering.{is_eq}
use Rattle.docker_model.specs.records.Record.{columns, column}
use Rattle.docker_model.specs.file.Journey.{Occasion, CallsAt}
use Rattle.docker_model.specs.file.File.{first_record}
use Rattle.docker_model.specs.file.Change.{ScheduleKey, AssociationKey, Key, association_key, schedule_key, Body, association_body, schedule_body}
use Rattle.docker_model.specs.state.Op.{schedule_key_cmp, association_key_cmp}
use Rattle.docker_model.specs.state.Table.{Table}
use Rattle.docker_model.specs.state.Row.{Row, AreInKeyOrder}
use Rattle.docker_model.specs.docker.Event.{events_of, event_day, event_line, Event, first_event_at}
use Rattle.docker_model.specs.docker.Choice.{Group, group_of, Train}
use Rattle.docker_model.specs.docker.DockerLine.{DockerLine, line_of_event, line_of_association}
use Rattle.docker_model.specs.docker.Association.{IsAssociationLine, partner_start, is_date_indicator, category_occasion}
use Rattle.docker_model.specs.docker.DockerList.{IsEventLine}
use Rattle.docker_laws.specs.LiveRows.{Link}

-- the line is in the docker, as the line of an event or of an association
abbrev pub IsDockerLine : Table → List ℕ → ℕ → DockerLine → Type 0
IsDockerLine live place day line = IsEventLine live place day line ⊎ IsAssociationLine live place day line

-- the days on which a train with an event on the day may start: the day and the two days before it,
-- without days before day 0. For example, the start days for day 10 are 10, 9 and 8, and the only
-- start day for day 0 is 0
abbrev pub start_days : ℕ → List ℕ
start_days day = map (λ back. day - back) (filter (λ back. nat_le back day) (0 ∷ 1 ∷ 2 ∷ []))

-- the docker lines of a train's events at the place on the day. The train starts on the day `start`
-- and runs according to this schedule
abbrev pub event_lines : List ℕ → ℕ → ℕ → ScheduleKey → List (List ℕ) → List DockerLine
event_lines place day start key lines =
    map (line_of_event key start lines)
    (filter (λ event. bytes_eq (columns 3 9 (event_line lines event)) place && (event_day start lines event == day)) (events_of lines))

-- whether there is a train, and that train runs according to the schedule with this key
abbrev pub runs_by : Option Train → ScheduleKey → Bool
runs_by None key = false
runs_by (Some train) key = is_eq (schedule_key_cmp train.key key)

-- the docker lines of a schedule at the place on the day: for each start day on which the train
-- runs according to this schedule, the lines of its events
abbrev pub schedule_lines : (List ℕ → ℕ → Option Train) → List ℕ → ℕ → ScheduleKey → List (List ℕ) → List DockerLine
schedule_lines trains place day key lines =
    flat_map (λ start. if runs_by (trains key.uid start) key then event_lines place day start key lines else []) (start_days day)

-- whether there is a chosen association, and that association has this key
abbrev pub counts_as : Option Link → AssociationKey → Bool
counts_as None key = false
counts_as (Some link) key = is_eq (association_key_cmp link.key key)

-- the identity that is printed for a train, or `????` if there is no train
abbrev pub identity_of : Option Train → List ℕ
identity_of None = codes "????"
identity_of (Some train) = columns 33 36 (first_record train.lines)

-- the identity that is printed for the train of a UID that starts on the given day. The result is
-- `????` if there is no such train, or if the day is `None`
abbrev pub partner_identity : (List ℕ → ℕ → Option Train) → List ℕ → Option ℕ → List ℕ
partner_identity trains uid None = codes "????"
partner_identity trains uid (Some day) = identity_of (trains uid day)

-- the docker line of an association for this event of the base train, as a list of one line. The
-- list is empty if there is no event, or if the event isn't on the docker's day
abbrev pub line_at : (List ℕ → ℕ → Option Train) → ℕ → ℕ → AssociationKey → List ℕ → Occasion → Train → Option Event → List DockerLine
line_at trains day start key line occasion base None = []
line_at trains day start key line occasion base (Some event) =
    if event_day start base.lines event == day
    then line_of_association occasion key.indicator base.key start base.lines event key.associated
    (partner_identity trains key.associated (partner_start (column 37 line) start)) ∷ []
    else []

-- the docker line of an association with this occasion and this base train, as a list of at most
-- one line. The list is empty if there is no occasion, or if no base train runs
abbrev pub line_with : (List ℕ → ℕ → Option Train) → ℕ → ℕ → AssociationKey → List ℕ → Option Occasion → Option Train → List DockerLine
line_with trains day start key line None base = []
line_with trains day start key line (Some occasion) None = []
line_with trains day start key line (Some occasion) (Some base) =
    line_at trains day start key line occasion base (first_event_at base.lines key.location key.suffix)

-- whether the association can have a docker line for this start day of the base train. It can if it
-- is the chosen association of its group, isn't a cancellation, and has the date indicator S, a
-- space, N or P
abbrev pub is_in_force : (Group → ℕ → Option Link) → ℕ → AssociationKey → List ℕ → Bool
is_in_force links start key line =
    counts_as (links (group_of key) start) key && not (key.indicator == 67) && is_date_indicator (column 37 line)

-- the docker lines of an association at the place on the day: at most one for each start day of the
-- base train
abbrev pub association_lines : (List ℕ → ℕ → Option Train) → (Group → ℕ → Option Link) → List ℕ → ℕ → AssociationKey → List ℕ → List DockerLine
association_lines trains links place day key line =
    if bytes_eq key.location place
    then flat_map (λ start. if is_in_force links start key line
    then line_with trains day start key line (category_occasion (columns 35 36 line)) (trains key.base start) else []) (start_days day)
    else []

-- the docker lines of a row's schedule or association. The row of a TIPLOC has no docker lines
abbrev pub row_lines : (List ℕ → ℕ → Option Train) → (Group → ℕ → Option Link) → List ℕ → ℕ → Key → Body → List DockerLine
row_lines trains links place day (schedule_key key) (schedule_body lines) = schedule_lines trains place day key lines
row_lines trains links place day (association_key key) (association_body line) = association_lines trains links place day key line
row_lines trains links place day _ _ = []

-- the docker lines of all rows, row by row. The function `trains` returns the train of a UID on a
-- day, and `links` returns the chosen association of a group on a start day
abbrev pub gathered : (List ℕ → ℕ → Option Train) → (Group → ℕ → Option Link) → List ℕ → ℕ → List Row → List DockerLine
gathered trains links place day rows = flat_map (λ row. row_lines trains links place day row.0 row.1) rows

-- a walk over these rows can find each docker line of the place. Each row is in the live table, and
-- the rows are in key order. The rows include each schedule that calls at the place and each
-- association at the place
pub record IsWalk (live : Table) (place : List ℕ) (rows : List Row) : Type 0 where
  pub ascending : AreInKeyOrder rows
  pub each : (key : Key) (body : Body) → Contains rows (key, body) → live key ≡ Some body
  pub schedules : (key : ScheduleKey) (lines : List (List ℕ)) → live (schedule_key key) ≡ Some (schedule_body lines) → CallsAt place lines
      → Contains rows (schedule_key key, schedule_body lines)
  pub associations : (key : AssociationKey) (line : List ℕ) → live (association_key key) ≡ Some (association_body line) → key.location ≡ place
      → Contains rows (association_key key, association_body line)
