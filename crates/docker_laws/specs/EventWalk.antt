-- The events of a schedule, computed by a walk over its records. The walk keeps the number of falls
-- and the last change en route. A fall is a time that is earlier than the time before it.
use Rattle.std.specs.Prelude.{ℕ, ◌+◌, nat_lt, if◌then◌else◌, List, [], ◌∷◌, ◌++◌, map, length, filter, Option, Some, None, codes}
use Rattle.std.specs.List.{enumerate_from, last_or}
use Rattle.docker_model.specs.file.Journey.{Occasion, times_of}
use Rattle.docker_model.specs.docker.Event.{Event, has_identity}

-- the events of one record, made from its times. The first event gets the number `number`. The
-- index of the record in the schedule, counted from 0, is `place`
abbrev pub events_here : ℕ → ℕ → List (Occasion × ℕ) → List Event
events_here number place times =
    map (λ counted. record { number = counted.0; place = place; occasion = counted.1.0; time = counted.1.1 }) (enumerate_from number times)

-- the events of the last records of a schedule. The first event gets the number `number`. The index
-- of the first of these records in the schedule, counted from 0, is `place`
abbrev pub events_from : ℕ → ℕ → List (List ℕ) → List Event
events_from number place [] = []
events_from number place (line ∷ lines) = events_here number place (times_of line) ++ events_from (number + length (times_of line)) (place + 1) lines

-- 1 if the time is earlier than the time before it, and otherwise 0. If there is no time before it,
-- the result is 0
abbrev pub fall_at : Option ℕ → ℕ → ℕ
fall_at None time = 0
fall_at (Some last) time = if nat_lt time last then 1 else 0

-- the last of these times, or `None` if there are no times
abbrev pub last_time : List ℕ → Option ℕ
last_time times = last_or None times

-- the last change en route among these records, or `None` if there is no change en route
abbrev pub last_change : List (List ℕ) → Option (List ℕ)
last_change lines = last_or None (filter (λ line. has_identity (codes "CR") line) lines)
