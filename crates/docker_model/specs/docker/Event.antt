-- The events of a train: the departures, arrivals and passes of its schedule, numbered from 1. A
-- schedule is represented by the list of its records.
use Rattle.std.specs.Prelude.{ℕ, ◌+◌, Bool, ◌&&◌, ◌==◌, List, [], map, take, filter, find, slice_index_or, Option, Some, None, codes}
use Rattle.std.specs.List.{flat_map, enumerate_from, last_or}
use Rattle.std.specs.Str.{bytes_eq}
use Rattle.docker_model.specs.records.Record.{columns, column}
use Rattle.docker_model.specs.file.Journey.{Occasion, times_of, times_along, fall_count}
use Rattle.docker_model.specs.file.File.{first_record}

-- an event of a train: its number, the index of its record in the schedule (counted from 0), its
-- occasion, and its time in half minutes
pub record Event : Type 0 where
  pub number : ℕ
  pub place : ℕ
  pub occasion : Occasion
  pub time : ℕ

-- all times in the schedule, each paired with the index of its record, counted from 0. A record has
-- at most three times
abbrev pub placed_times : List (List ℕ) → List (ℕ × (Occasion × ℕ))
placed_times lines = flat_map (λ placed. map (λ time. (placed.0, time)) (times_of placed.1)) (enumerate_from 0 lines)

-- the events of a schedule: one event for each time in the schedule, numbered from 1
abbrev pub events_of : List (List ℕ) → List Event
events_of lines =
    map (λ counted. record { number = counted.0; place = counted.1.0; occasion = counted.1.1.0; time = counted.1.1.1 })
    (enumerate_from 1 (placed_times lines))

-- how often a schedule passes midnight up to and including the event with this number. For the
-- numbers 0 and 1 the result is 0. For a number above the last event's number, every midnight
-- counts
abbrev pub falls_to : List (List ℕ) → ℕ → ℕ
falls_to lines number = fall_count (take number (times_along lines))

-- the day of an event, for a train that starts on this day. For example, if a train starts on day
-- 10, the events after the first midnight, up to the second midnight, are on day 11
abbrev pub event_day : ℕ → List (List ℕ) → Event → ℕ
event_day start lines event = start + falls_to lines event.number

-- the record of this event, in the schedule with these records
abbrev pub event_line : List (List ℕ) → Event → List ℕ
event_line lines event = slice_index_or lines event.place []

-- the train identity in a change en route, or in the basic schedule if there is no change
abbrev pub changed_identity : Option (List ℕ) → List ℕ → List ℕ
changed_identity None basic = columns 33 36 basic
changed_identity (Some change) basic = columns 13 16 change

-- whether the record has this record identity in columns 1 and 2
abbrev pub has_identity : List ℕ → List ℕ → Bool
has_identity identity line = bytes_eq (columns 1 2 line) identity

-- the train identity at an event. It is taken from the last change en route before the event's
-- record. If there is no such change, it is taken from the basic schedule
abbrev pub event_identity : List (List ℕ) → Event → List ℕ
event_identity lines event =
    changed_identity (last_or None (filter (λ line. has_identity (codes "CR") line) (take event.place lines))) (first_record lines)

-- whether the record has this TIPLOC in columns 3 to 9 and this suffix in column 10
abbrev pub is_at : List ℕ → ℕ → List ℕ → Bool
is_at location suffix line = bytes_eq (columns 3 9 line) location && (column 10 line == suffix)

-- the first event whose record has this TIPLOC and suffix, or `None` if there is no such event. The
-- docker line of an association is printed for this event of the base train
abbrev pub first_event_at : List (List ℕ) → List ℕ → ℕ → Option Event
first_event_at lines location suffix = find (λ event. is_at location suffix (event_line lines event)) (events_of lines)
