-- How far a walk over a schedule's lines has come, and the remaining events of the walk.
use Rattle.std.specs.Prelude.{ℕ, ◌+◌, ◌*◌, ◌^◌, ◌≤◌, List, ◌++◌, length, All}
use Rattle.docker_model.specs.records.Field.{HasGoodFields}
use Rattle.train_choice.specs.Meaning.{occasion_meant, times_meant}
use Rattle.train_choice.specs.Occurrences as model
use Rattle.train_choice.specs.Occurrences.{Progress, occurrences_at, occurrences_from, past_times}
use Rattle.train_choice.specs.declared.walk.Occurrence.{Occurrence}
use Rattle.train_choice.specs.declared.walk.EventWalk.{EventWalk}

-- converts the code's `Occurrence` to the `Occurrence` of the definitions
abbrev pub occurrence_meant : Occurrence → model.Occurrence
occurrence_meant event = record {
  number = event.number;
  occasion = occasion_meant event.occasion;
  time = event.time;
  falls = event.falls;
  line = event.line.now;
  identity = event.identity.now;
}

-- converts the progress of the code's walk to the `Progress` of the definitions
abbrev pub progress_of : EventWalk → Progress
progress_of walk = record { number = walk.number; falls = walk.falls; last = walk.last; identity = walk.identity.now }

-- the remaining events of the current line
abbrev pub events_here : EventWalk → List model.Occurrence
events_here walk = occurrences_at (progress_of walk) walk.line.now (times_meant walk.times)

-- the progress of the walk after the current line
abbrev pub progress_after_line : EventWalk → Progress
progress_after_line walk = past_times (progress_of walk) (times_meant walk.times)

-- says that the remaining events of the current line and `more` further events can be numbered
-- without overflow
pub record HasRoom (walk : EventWalk) (more : ℕ) : Type 0 where
  pub bound : walk.number + length (times_meant walk.times) + more ≤ 2 ^ 40
  pub few : walk.falls ≤ walk.number

-- the remaining events of the current line, and then the events of these later lines
abbrev pub events_left : EventWalk → List (List ℕ) → List model.Occurrence
events_left walk lines = events_here walk ++ occurrences_from (progress_after_line walk) lines

-- says that the walk can continue over these lines: their fields are good, and their events can be
-- numbered
pub record CanWalk (walk : EventWalk) (lines : List (List ℕ)) : Type 0 where
  pub good : All HasGoodFields lines
  pub room : HasRoom walk (3 * length lines)
