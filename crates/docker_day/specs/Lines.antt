-- The lines of a docker, made from the events of a walk.
use Rattle.std.specs.Prelude.{◌≡◌, ℕ, ◌+◌, Bool, ◌&&◌, ◌||◌, ◌==◌, if◌then◌else◌, find, List, [], ◌∷◌, ◌++◌, Option, Some, None}
use Rattle.std.specs.Str.{bytes_eq}
use Rattle.docker_model.specs.records.Record.{kind_of, columns, column}
use Rattle.docker_model.specs.file.Change.{AssociationKey, ScheduleKey}
use Rattle.docker_model.specs.docker.Choice.{Group, Train}
use Rattle.docker_model.specs.file.Journey.{Occasion}
use Rattle.docker_model.specs.docker.Event.{is_at}
use Rattle.docker_model.specs.state.Table.{Table}
use Rattle.docker_model.specs.docker.DockerLine.{DockerLine, Detail, partner, platform_by_kind, track_by_kind}
use Rattle.docker_model.specs.docker.DockerLine.{path_by_kind, public_by_kind, occasion_rank, associated_uid}
use Rattle.docker_model.specs.state.Order.{bytes_cmp}
use Rattle.std.specs.declared.cmp.Ordering.{Ordering}
use Rattle.std.specs.Ordering.{nat_cmp, ordering_then}
use Rattle.docker_model.specs.records.PrintedTime.{spaces}
use Rattle.docker_model.specs.state.Row.{Row, AreRowsOf}
use Rattle.docker_laws.specs.LiveRows.{Link, train_in, link_in}
use Rattle.docker_model.specs.docker.Association.{category_occasion, partner_start}
use Rattle.docker_laws.specs.Gathering.{event_lines, runs_by, partner_identity, is_in_force}
use Rattle.train_choice.specs.Occurrences.{Occurrence, occurrences}
use Rattle.train_choice.specs.Midnights.{some_late}
use Rattle.train_choice.specs.UpTo.{occurrences_to}
use Rattle.train_choice.specs.RecentRuns.{runs_back}

-- the docker line of an event. `key` is the schedule's key, `start` the day on which the train
-- starts, and `detail` has the train's origin and destination
abbrev pub line_at_event : ScheduleKey → ℕ → Detail → Occurrence → DockerLine
line_at_event key start detail event = record {
  time = event.time;
  occasion = event.occasion;
  identity = event.identity;
  uid = key.uid;
  indicator = key.indicator;
  suffix = column 10 event.line;
  platform = platform_by_kind (kind_of event.line) event.line;
  track = track_by_kind (kind_of event.line) event.line;
  path = path_by_kind (kind_of event.line) event.line;
  public_time = public_by_kind (kind_of event.line) event.occasion event.line;
  start = start;
  number = event.number;
  detail = detail;
}

-- the docker line of an association at an event of the base train. `base` is the key of the base
-- train's schedule, `start` the day on which the base train starts, and `identity` the associated
-- train's identity
abbrev pub line_of_link : Occasion → AssociationKey → ScheduleKey → ℕ → Occurrence → List ℕ → DockerLine
line_of_link occasion key base start event identity = record {
  time = event.time;
  occasion = occasion;
  identity = event.identity;
  uid = base.uid;
  indicator = key.indicator;
  suffix = column 10 event.line;
  platform = platform_by_kind (kind_of event.line) event.line;
  track = spaces 3;
  path = spaces 3;
  public_time = spaces 4;
  start = start;
  number = event.number;
  detail = partner key.associated identity;
}

-- whether the event is at the place
abbrev pub is_here : List ℕ → Occurrence → Bool
is_here place event = bytes_eq (columns 3 9 event.line) place

-- whether the event is on the day, for a train that starts on the day `start`
abbrev pub is_today : ℕ → ℕ → Occurrence → Bool
is_today day start event = start + event.falls == day

-- the docker lines of all events that are at the place on the day
abbrev pub lines_there : List ℕ → ℕ → ℕ → ScheduleKey → Detail → List Occurrence → List DockerLine
lines_there place day start key detail [] = []
lines_there place day start key detail (event ∷ events) =
    (if is_here place event && is_today day start event then line_at_event key start detail event ∷ [] else [])
    ++ lines_there place day start key detail events

-- whether the schedule runs on the day or on one of the two days before it
abbrev pub runs_recently : List (List ℕ) → ℕ → Bool
runs_recently lines day = runs_back lines day 0 || runs_back lines day 1 || runs_back lines day 2

-- whether the schedule's train may be at the place on this day, having started on an earlier day.
-- That is so if the schedule runs on one of the two days before this day, and its train passes
-- midnight before its last event at the place
abbrev pub is_under_way : List ℕ → List (List ℕ) → ℕ → Bool
is_under_way place lines day = (runs_back lines day 1 || runs_back lines day 2) && some_late (occurrences_to place lines)

-- whether the event belongs to a call at the place with this suffix
abbrev pub is_call : List ℕ → ℕ → Occurrence → Bool
is_call place suffix event = is_at place suffix event.line

-- says that `after` is `before` with the lines of `more` appended. `more` computes these lines from
-- two functions. The first function returns the train of a UID that starts on a day. The second
-- function returns the association chosen in a group for a start day
abbrev pub Adds : Table → ((List ℕ → ℕ → Option Train) → (Group → ℕ → Option Link) → List DockerLine) → List DockerLine → List DockerLine → Type 0
Adds live more before after = (rows : List Row) → AreRowsOf live rows → after ≡ before ++ more (train_in rows) (link_in rows)

-- a list with the line, or the empty list if there is no line
abbrev pub listed : Option DockerLine → List DockerLine
listed None = []
listed (Some line) = line ∷ []

-- the docker lines of a schedule for a start day. There are none unless the train of the schedule's
-- UID runs according to this schedule on the start day
abbrev pub schedule_piece : (List ℕ → ℕ → Option Train) → List ℕ → ℕ → ScheduleKey → List (List ℕ) → ℕ → List DockerLine
schedule_piece trains place day key lines start = if runs_by (trains key.uid start) key then event_lines place day start key lines else []

-- the docker line of an association at an event of the base train, as a list. The list is empty if
-- the event isn't on the docker's day
abbrev pub link_line_at : (List ℕ → ℕ → Option Train) → ℕ → ℕ → Link → Occasion → ScheduleKey → Occurrence → List DockerLine
link_line_at trains day start link occasion base event =
    if is_today day start event
    then line_of_link occasion link.key base start event (partner_identity trains link.key.associated (partner_start (column 37 link.line) start)) ∷ []
    else []

-- like `link_line_at`, but empty if there is no event
abbrev pub link_line_by : (List ℕ → ℕ → Option Train) → ℕ → ℕ → Link → Occasion → ScheduleKey → Option Occurrence → List DockerLine
link_line_by trains day start link occasion base None = []
link_line_by trains day start link occasion base (Some event) = link_line_at trains day start link occasion base event

-- the docker line of an association, as a list. The list is empty if there is no base train, or if
-- the association has no occasion because its category isn't `JJ`, `VV` or `NP`
abbrev pub link_line_with : (List ℕ → ℕ → Option Train) → ℕ → ℕ → Link → Option Occasion → Option Train → List DockerLine
link_line_with trains day start link None base = []
link_line_with trains day start link (Some occasion) None = []
link_line_with trains day start link (Some occasion) (Some base) =
    link_line_by trains day start link occasion base.key (find (is_call link.key.location link.key.suffix) (occurrences base.lines))

-- the docker line of an association for a start day of its base train, as a list. The list is empty
-- if the association isn't in force on that day
abbrev pub link_piece : (List ℕ → ℕ → Option Train) → (Group → ℕ → Option Link) → ℕ → Link → ℕ → List DockerLine
link_piece trains links day link start =
    if is_in_force links start link.key link.line
    then link_line_with trains day start link (category_occasion (columns 35 36 link.line)) (trains link.key.base start)
    else []

-- like `link_piece`, but empty if the association isn't at the place
abbrev pub link_here : (List ℕ → ℕ → Option Train) → (Group → ℕ → Option Link) → List ℕ → ℕ → Link → ℕ → List DockerLine
link_here trains links place day link start = if bytes_eq link.key.location place then link_piece trains links day link start else []

-- the order of lines with the same time, occasion and UID
abbrev pub cmp_of_one_train : DockerLine → DockerLine → Ordering
cmp_of_one_train a b =
    ordering_then (nat_cmp a.start b.start) (ordering_then (nat_cmp a.number b.number) (bytes_cmp (associated_uid a.detail) (associated_uid b.detail)))

-- the order of lines with the same time and occasion
abbrev pub cmp_at_one_event : DockerLine → DockerLine → Ordering
cmp_at_one_event a b = ordering_then (bytes_cmp a.uid b.uid) (cmp_of_one_train a b)

-- the order of lines with the same time
abbrev pub cmp_at_one_time : DockerLine → DockerLine → Ordering
cmp_at_one_time a b = ordering_then (nat_cmp (occasion_rank a.occasion) (occasion_rank b.occasion)) (cmp_at_one_event a b)
