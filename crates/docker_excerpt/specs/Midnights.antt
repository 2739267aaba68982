-- Whether a schedule passes midnight, computed time by time.
use Rattle.std.specs.Prelude.{◌≡◌, ℕ, false, nat_lt, if◌then◌else◌, List, [], ◌∷◌, map, Option, Some, None}
use Rattle.docker_model.specs.records.Field.{is_deletion}
use Rattle.docker_model.specs.file.Journey.{times_of}
use Rattle.docker_model.specs.file.File.{IsSchedule, first_record}

-- the last time after one more optional time, or `None` once a time is below the time before it. The
-- first argument is the last time before
abbrev pub past : Option ℕ → Option ℕ → Option ℕ
past None time = None
past (Some last) None = Some last
past (Some last) (Some time) = if nat_lt time last then None else Some time

-- the last time after these times, or `None` once a time is below the time before it
abbrev pub past_all : Option ℕ → List ℕ → Option ℕ
past_all last [] = last
past_all last (time ∷ times) = past_all (past last (Some time)) times

-- the last time after the times in a record, or `None` once a time is below the time before it
abbrev pub past_line : Option ℕ → List ℕ → Option ℕ
past_line last line = past_all last (map (λ time. time.1) (times_of line))

-- Says that these records are a schedule, and not a deletion.
pub record IsPutSchedule (lines : List (List ℕ)) : Type 0 where
  pub schedule : IsSchedule lines
  pub stays : is_deletion (first_record lines) ≡ false
