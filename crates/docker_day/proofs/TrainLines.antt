-- The docker lines of a train's events, made event by event.
use Rattle.cif_laws.proofs.Common.{◌≡◌, ℕ, ◌==◌, Bool, List, [], ◌∷◌, ◌++◌, map, refl, append-nil, arith, rules, ◌&&◌, filter, codes, bytes_eq, columns, Event}
use Rattle.cif_laws.proofs.Common.{event_day, event_line, ScheduleKey, DockerLine, Detail, tiploc_of_first, line_of_event}
use Rattle.docker_model.specs.docker.DockerLine.{ends}
use Rattle.docker_laws.specs.Gathering.{event_lines}
use Rattle.train_choice.specs.Occurrences.{occurrence_of, occurrences}
use Rattle.docker_day.specs.Lines.{lines_there}

-- ---- the docker lines, event by event

module _ (place : List ℕ) (day start : ℕ) (key : ScheduleKey) (lines : List (List ℕ)) where
  abbrev detail : Detail
  detail = ends (tiploc_of_first (codes "LO") lines) (tiploc_of_first (codes "LT") lines)

  abbrev is_there : Event → Bool
  is_there event = bytes_eq (columns 3 9 (event_line lines event)) place && (event_day start lines event == day)

  along : (events : List Event)
      → lines_there place day start key detail (map (occurrence_of lines) events) ≡ map (line_of_event key start lines) (filter is_there events)
  along [] = refl
  along (event ∷ events) = grind (arith, (along events))

  -- the docker lines that are made event by event are the schedule's docker lines
  pub event_lines_are : lines_there place day start key detail (occurrences lines) ≡ event_lines place day start key lines
  event_lines_are = search (rules, along)

-- a schedule without events has no docker line
pub no_event_lines : (place : List ℕ) (day start : ℕ) (key : ScheduleKey) (lines : List (List ℕ)) (out : List DockerLine) → occurrences lines ≡ []
    → out ≡ out ++ event_lines place day start key lines
no_event_lines = search (rules, append-nil, event_lines_are)
