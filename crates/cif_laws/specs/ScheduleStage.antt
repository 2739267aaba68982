-- The stage that a reader of a schedule has reached after some of the schedule's records. The stage
-- determines which records may follow, and whether the records are a schedule.
use Rattle.std.specs.Prelude.{Some, None, ℕ, List, Bool, true, false, [], ◌∷◌, ◌++◌, Option, ◌==◌, ◌||◌, ◌&&◌, nat_le, option_and_then}
use Rattle.std.proofs.Common.{cond}
use Rattle.docker_model.specs.records.Record.{Kind, extra_details, origin_location, intermediate_location}
use Rattle.docker_model.specs.records.Record.{terminating_location, change_en_route, column, Lines, kind_of, basic_schedule}
use Rattle.docker_model.specs.records.Field.{is_deletion}
use Rattle.docker_model.specs.file.Journey.{midnights}
use Rattle.docker_model.specs.file.File.{first_record}
use Rattle.cif_laws.specs.RecordTest.{has_good_fields, is_record}

-- the stage of a reader in a schedule: after the basic schedule, after the extra details, inside
-- the journey, or after the journey
pub data Stage : Type 0 where
  after_basic : Stage
  after_details : Stage
  in_journey : Stage
  after_journey : Stage

-- the stage after one more record, judged only by the record's kind, or `None` if no record of this
-- kind continues the schedule
abbrev pub stage_after : Stage → Option Kind → Option Stage
stage_after after_basic (Some extra_details) = Some after_details
stage_after after_basic (Some origin_location) = Some in_journey
stage_after after_details (Some origin_location) = Some in_journey
stage_after in_journey (Some intermediate_location) = Some in_journey
stage_after in_journey (Some change_en_route) = Some in_journey
stage_after in_journey (Some terminating_location) = Some after_journey
stage_after _ _ = None

-- whether the journey may be missing: the schedule is a deletion or a cancellation
abbrev pub may_lack : List ℕ → Bool
may_lack basic = is_deletion basic || (column 80 basic == 67)

-- whether these records may be a complete schedule at this stage
abbrev pub may_end : Stage → Lines → Bool
may_end after_journey lines = true
may_end in_journey lines = false
may_end _ lines = may_lack (first_record lines)

-- whether the next record is sound: its fields are good, and the schedule doesn't pass midnight for
-- the third time at this record. In a deletion neither is checked
abbrev pub is_sound_next : Lines → List ℕ → Bool
is_sound_next lines line = is_deletion (first_record lines) || (has_good_fields line && nat_le (midnights (lines ++ line ∷ [])) 2)

-- the stage after one more record, or `None` if no schedule continues with this record
abbrev pub next_stage : Stage → Lines → List ℕ → Option Stage
next_stage stage lines line = cond (is_record line && is_sound_next lines line) (stage_after stage (kind_of line)) None

-- whether a record of this kind is a basic schedule, the first record of a schedule
abbrev pub is_basic_kind : Option Kind → Bool
is_basic_kind (Some basic_schedule) = true
is_basic_kind _ = false

-- whether the record can be the first record of a schedule: a basic schedule with good fields
abbrev pub is_first_line : List ℕ → Bool
is_first_line line = is_record line && is_basic_kind (kind_of line) && has_good_fields line

-- the stage after more records, or `None` if no schedule continues with these records. The earlier
-- records, `done`, are needed to count how often the schedule passes midnight
abbrev pub stage_from : Stage → Lines → Lines → Option Stage
stage_from stage done [] = Some stage
stage_from stage done (line ∷ rest) = option_and_then (λ next. stage_from next (done ++ line ∷ []) rest) (next_stage stage done line)

-- the stage after these records, or `None` if no schedule begins with these records. The empty list
-- has no stage
abbrev pub stage_of : Lines → Option Stage
stage_of [] = None
stage_of (basic ∷ rest) = cond (is_first_line basic) (stage_from after_basic (basic ∷ []) rest) None
