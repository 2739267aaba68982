-- The lines of a docker: the fields of a line, and the order of lines.
use Rattle.std.specs.Prelude.{ℕ, List, Option, Some, [], find, unwrap_or, codes}
use Rattle.std.specs.declared.cmp.Ordering.{Ordering}
use Rattle.std.specs.Ordering.{ordering_then, nat_cmp}
use Rattle.docker_model.specs.records.Record.{Kind, intermediate_location, columns, origin_location, terminating_location, kind_of, column}
use Rattle.docker_model.specs.records.PrintedTime.{spaces, shown_public}
use Rattle.docker_model.specs.file.Journey.{Occasion, arrival, departure, pass, joining, dividing, next_working}
use Rattle.docker_model.specs.file.Change.{ScheduleKey}
use Rattle.docker_model.specs.state.Order.{bytes_cmp}
use Rattle.docker_model.specs.docker.Event.{has_identity, Event, event_line, event_identity}

-- the end of a docker line: for an event the TIPLOCs of the train's origin and destination, and for
-- an association the associated train's UID and identity
pub data Detail : Type 0 where
  ends : (origin destination : List ℕ) → Detail
  partner : (uid identity : List ℕ) → Detail

-- one line of a docker. Most fields are printed, and the time is in half minutes. Two fields aren't
-- printed and only decide the order of lines: the train's start day and the event's number
pub record DockerLine : Type 0 where
  pub time : ℕ
  pub occasion : Occasion
  pub identity : List ℕ
  pub uid : List ℕ
  pub indicator : ℕ
  pub suffix : ℕ
  pub platform : List ℕ
  pub track : List ℕ
  pub path : List ℕ
  pub public_time : List ℕ
  pub start : ℕ
  pub number : ℕ
  pub detail : Detail

-- the platform, taken from a location record of this kind: columns 34 to 36 of an intermediate
-- location, and 20 to 22 of an origin or a terminus
abbrev pub platform_by_kind : Option Kind → List ℕ → List ℕ
platform_by_kind (Some intermediate_location) line = columns 34 36 line
platform_by_kind _ line = columns 20 22 line

-- the railway line on which a train leaves, taken from a location record of this kind. For a
-- terminus the result is three spaces
abbrev pub track_by_kind : Option Kind → List ℕ → List ℕ
track_by_kind (Some origin_location) line = columns 23 25 line
track_by_kind (Some intermediate_location) line = columns 37 39 line
track_by_kind _ line = spaces 3

-- the path by which a train arrives, taken from a location record of this kind. For an origin the
-- result is three spaces
abbrev pub path_by_kind : Option Kind → List ℕ → List ℕ
path_by_kind (Some intermediate_location) line = columns 40 42 line
path_by_kind (Some terminating_location) line = columns 23 25 line
path_by_kind _ line = spaces 3

-- the public time that is printed for an event, taken from a location record of this kind. For a
-- pass the result is four spaces
abbrev pub public_by_kind : Option Kind → Occasion → List ℕ → List ℕ
public_by_kind (Some origin_location) departure line = shown_public (columns 16 19 line)
public_by_kind (Some intermediate_location) arrival line = shown_public (columns 26 29 line)
public_by_kind (Some intermediate_location) departure line = shown_public (columns 30 33 line)
public_by_kind (Some terminating_location) arrival line = shown_public (columns 16 19 line)
public_by_kind _ _ line = spaces 4

-- the TIPLOC of the first record with this record identity in a schedule. For example, for `LO` the
-- result is the train's origin, and for `LT` the train's destination
abbrev pub tiploc_of_first : List ℕ → List (List ℕ) → List ℕ
tiploc_of_first identity lines = columns 3 9 (unwrap_or (find (λ line. has_identity identity line) lines) [])

-- converts an event of a train to its docker line. The train runs according to the schedule with
-- this key and these records, and starts on this day
abbrev pub line_of_event : ScheduleKey → ℕ → List (List ℕ) → Event → DockerLine
line_of_event key start lines event =
    let at = event_line lines event in
    record {
      time = event.time;
      occasion = event.occasion;
      identity = event_identity lines event;
      uid = key.uid;
      indicator = key.indicator;
      suffix = column 10 at;
      platform = platform_by_kind (kind_of at) at;
      track = track_by_kind (kind_of at) at;
      path = path_by_kind (kind_of at) at;
      public_time = public_by_kind (kind_of at) event.occasion at;
      start = start;
      number = event.number;
      detail = ends (tiploc_of_first (codes "LO") lines) (tiploc_of_first (codes "LT") lines);
    }

-- the docker line of an association. The key, the start day, the records and the event belong to
-- the base train. The STP indicator is the association's, and the line ends with the associated
-- train's UID and identity
abbrev pub line_of_association : Occasion → ℕ → ScheduleKey → ℕ → List (List ℕ) → Event → List ℕ → List ℕ → DockerLine
line_of_association occasion indicator key start lines event associated identity =
    let at = event_line lines event in
    record {
      time = event.time;
      occasion = occasion;
      identity = event_identity lines event;
      uid = key.uid;
      indicator = indicator;
      suffix = column 10 at;
      platform = platform_by_kind (kind_of at) at;
      track = spaces 3;
      path = spaces 3;
      public_time = spaces 4;
      start = start;
      number = event.number;
      detail = partner associated identity;
    }

-- the rank of an occasion, which decides the order of lines with the same time: arrivals, passes,
-- joins, divisions, next workings, departures
abbrev pub occasion_rank : Occasion → ℕ
occasion_rank arrival = 0
occasion_rank pass = 1
occasion_rank joining = 2
occasion_rank dividing = 3
occasion_rank next_working = 4
occasion_rank departure = 5

-- the associated train's UID, which only the line of an association has. For the line of an event
-- the result is empty
abbrev pub associated_uid : Detail → List ℕ
associated_uid (ends origin destination) = []
associated_uid (partner uid identity) = uid

-- the order of docker lines: by time, then occasion, UID, start day, event number and the
-- associated train's UID
abbrev pub docker_line_cmp : DockerLine → DockerLine → Ordering
docker_line_cmp a b =
    ordering_then (nat_cmp a.time b.time) (ordering_then (nat_cmp (occasion_rank a.occasion) (occasion_rank b.occasion))
    (ordering_then (bytes_cmp a.uid b.uid) (ordering_then (nat_cmp a.start b.start)
    (ordering_then (nat_cmp a.number b.number) (bytes_cmp (associated_uid a.detail) (associated_uid b.detail))))))
