-- The times of a journey, and how often the journey passes midnight. A journey consists of the
-- records of a schedule from its origin to its terminus.
use Rattle.std.specs.Prelude.{ℕ, List, [], ◌∷◌, Option, Some, None, ◌+◌, ◌++◌, map, nat_lt, if◌then◌else◌, ◌≡◌, Contains, ◌⊎◌, Bool, ◌&&◌}
use Rattle.std.specs.List.{flat_map, list_any}
use Rattle.std.specs.Str.{bytes_eq}
use Rattle.docker_model.specs.records.Record.{Kind, origin_location, intermediate_location, terminating_location, columns, kind_of, HasKind, is_location}
use Rattle.docker_model.specs.records.Clock.{scheduled_time}

-- the occasion of a docker line: an arrival, a pass or a departure of a train, or an association of
-- the train with another train
pub data Occasion : Type 0 where
  arrival : Occasion
  pass : Occasion
  joining : Occasion
  dividing : Occasion
  next_working : Occasion
  departure : Occasion

-- the list with only the pair of the occasion and its time, or the empty list if there is no time
abbrev pub timed : Occasion → Option ℕ → List (Occasion × ℕ)
timed occasion None = []
timed occasion (Some time) = (occasion, time) ∷ []

-- the times in a record of this kind, in half minutes, each with its occasion. An origin has a
-- departure and a terminus an arrival. An intermediate location may have an arrival, a pass and a
-- departure, in this order
abbrev pub times_by_kind : Option Kind → List ℕ → List (Occasion × ℕ)
times_by_kind (Some origin_location) line = timed departure (scheduled_time (columns 11 15 line))
times_by_kind (Some intermediate_location) line =
    timed arrival (scheduled_time (columns 11 15 line))
    ++ timed pass (scheduled_time (columns 21 25 line))
    ++ timed departure (scheduled_time (columns 16 20 line))
times_by_kind (Some terminating_location) line = timed arrival (scheduled_time (columns 11 15 line))
times_by_kind _ line = []

-- the times in a record, in half minutes, each with its occasion
abbrev pub times_of : List ℕ → List (Occasion × ℕ)
times_of line = times_by_kind (kind_of line) line

-- the times in a schedule's records, in the order of the records. Each time is in half minutes
abbrev pub times_along : List (List ℕ) → List ℕ
times_along lines = map (λ time. time.1) (flat_map times_of lines)

-- the number of falls in a list of times. A fall is a time that is earlier than the time before it.
-- For example, 5 3 3 1 has two falls. The second 3 isn't a fall, because it equals the time before
-- it
abbrev pub fall_count : List ℕ → ℕ
fall_count [] = 0
fall_count (time ∷ []) = 0
fall_count (time ∷ later ∷ times) = (if nat_lt later time then 1 else 0) + fall_count (later ∷ times)

-- how often the schedule passes midnight: once for each time that is earlier than the time before
-- it
abbrev pub midnights : List (List ℕ) → ℕ
midnights lines = fall_count (times_along lines)

-- the schedule calls at this TIPLOC: one of its LO, LI and LT records has this TIPLOC in columns 3
-- to 9
pub record CallsAt (place : List ℕ) (lines : List (List ℕ)) : Type 0 where
  pub line : List ℕ
  pub among : Contains lines line
  pub kind : HasKind origin_location line ⊎ HasKind intermediate_location line ⊎ HasKind terminating_location line
  pub here : columns 3 9 line ≡ place

-- whether the schedule calls at this TIPLOC
abbrev pub calls_at : List ℕ → List (List ℕ) → Bool
calls_at place lines = list_any (λ line. is_location (kind_of line) && bytes_eq (columns 3 9 line) place) lines
