-- The events of a schedule in the order of its lines, and the progress of a walk that computes
-- them.
use Rattle.std.specs.Prelude.{ℕ, ◌+◌, if◌then◌else◌, List, [], ◌∷◌, ◌++◌, map, Option, Some, None, codes}
use Rattle.docker_model.specs.records.Record.{columns}
use Rattle.docker_model.specs.file.Journey.{Occasion, times_of}
use Rattle.docker_model.specs.docker.Event.{Event, events_of, falls_to, event_line, event_identity, has_identity}
use Rattle.docker_laws.specs.EventWalk.{fall_at}

-- an event, with the data that a walk computes for it. `number` counts the schedule's events from
-- 1, `time` is in half minutes, `falls` is how often the train has passed midnight, and `identity`
-- is the train identity at the event
pub record Occurrence : Type 0 where
  pub number : ℕ
  pub occasion : Occasion
  pub time : ℕ
  pub falls : ℕ
  pub line : List ℕ
  pub identity : List ℕ

-- an event of these lines, with its line, the number of midnights before it, and the train identity
-- at the event
abbrev pub occurrence_of : List (List ℕ) → Event → Occurrence
occurrence_of lines event = record {
  number = event.number;
  occasion = event.occasion;
  time = event.time;
  falls = falls_to lines event.number;
  line = event_line lines event;
  identity = event_identity lines event;
}

-- the events of a schedule, in order
abbrev pub occurrences : List (List ℕ) → List Occurrence
occurrences lines = map (occurrence_of lines) (events_of lines)

-- the progress of a walk: the number of the next event, the number of midnights passed, the last time that was passed, if there was one, and the train identity
pub record Progress : Type 0 where
  pub number : ℕ
  pub falls : ℕ
  pub last : Option ℕ
  pub identity : List ℕ

-- the progress of a walk before the first line, which is the basic schedule
abbrev pub before_all : List ℕ → Progress
before_all basic = record { number = 1; falls = 0; last = None; identity = columns 33 36 basic }

-- the event at one time of a line. `p` is the progress before this time
abbrev pub occurrence_at : Progress → List ℕ → Occasion × ℕ → Occurrence
occurrence_at p line time = record {
  number = p.number;
  occasion = time.0;
  time = time.1;
  falls = p.falls + fall_at p.last time.1;
  line = line;
  identity = p.identity;
}

-- the progress after one time of a line
abbrev pub past_time : Progress → Occasion × ℕ → Progress
past_time p time = record {
  number = p.number + 1;
  falls = p.falls + fall_at p.last time.1;
  last = Some time.1;
  identity = p.identity;
}

-- the events at these times of a line. `p` is the progress before these times
abbrev pub occurrences_at : Progress → List ℕ → List (Occasion × ℕ) → List Occurrence
occurrences_at p line [] = []
occurrences_at p line (time ∷ times) = occurrence_at p line time ∷ occurrences_at (past_time p time) line times

-- the progress after these times of a line
abbrev pub past_times : Progress → List (Occasion × ℕ) → Progress
past_times p [] = p
past_times p (time ∷ times) = past_times (past_time p time) times

-- the train identity after a line. A change en route sets a new train identity, and all other lines
-- leave it unchanged
abbrev pub identity_after : List ℕ → List ℕ → List ℕ
identity_after line identity = if has_identity (codes "CR") line then columns 13 16 line else identity

-- the progress when the walk reaches a line. If the line is a change en route, the train identity
-- is already the new one
abbrev pub turned : Progress → List ℕ → Progress
turned p line = record {
  number = p.number;
  falls = p.falls;
  last = p.last;
  identity = identity_after line p.identity;
}

-- the events of these lines. `p` is the progress before these lines
abbrev pub occurrences_from : Progress → List (List ℕ) → List Occurrence
occurrences_from p [] = []
occurrences_from p (line ∷ lines) =
    occurrences_at (turned p line) line (times_of line) ++ occurrences_from (past_times (turned p line) (times_of line)) lines
