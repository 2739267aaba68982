-- The fault at a record that can't continue a schedule. The causes have the same ranks as for a
-- record of a file. The line at fault is known to be a record, so `bad_length` and `bad_byte` don't
-- occur.
use Rattle.std.specs.Prelude.{◌≡◌, ℕ, ◌<◌, ◌≤◌, List, [], ◌∷◌, ◌++◌, None, Some}
use Rattle.docker_model.specs.records.Record.{kind_of}
use Rattle.docker_model.specs.records.Field.{leftmost_bad_field}
use Rattle.docker_model.specs.file.Journey.{midnights}
use Rattle.docker_model.specs.file.File.{BeginsSchedule}
use Rattle.docker_model.specs.file.FileFault.{FileCause, bad_kind, bad_place, bad_field, third_midnight, cause_rank}

-- the record is out of place: no schedule has a record of this kind directly after these earlier
-- records
abbrev pub IsOutOfSchedule : List (List ℕ) → List ℕ → Type 0
IsOutOfSchedule earlier line = (next : List ℕ) → kind_of next ≡ kind_of line → ¬ BeginsSchedule (earlier ++ next ∷ [])

-- the cause applies to a record that follows these records of a schedule
abbrev pub HoldsInSchedule : List (List ℕ) → List ℕ → FileCause → Type 0
HoldsInSchedule earlier line bad_kind = kind_of line ≡ None
HoldsInSchedule earlier line bad_place = IsOutOfSchedule earlier line
HoldsInSchedule earlier line (bad_field at) = leftmost_bad_field line ≡ Some at
HoldsInSchedule earlier line third_midnight = (midnights earlier ≤ 2) × (2 < midnights (earlier ++ line ∷ []))
HoldsInSchedule earlier line _ = ⊥

-- `cause` is the cause of the fault at a record that can't continue the schedule: with the record
-- appended, the records no longer begin a schedule. Of the causes that apply, `cause` has the
-- lowest rank
pub record IsScheduleFault (earlier : List (List ℕ)) (line : List ℕ) (cause : FileCause) : Type 0 where
  pub earlier_begin : BeginsSchedule earlier
  pub here : ¬ BeginsSchedule (earlier ++ line ∷ [])
  pub holds : HoldsInSchedule earlier line cause
  pub first : (other : FileCause) → cause_rank other < cause_rank cause → ¬ HoldsInSchedule earlier line other
