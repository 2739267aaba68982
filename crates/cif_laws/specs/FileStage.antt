-- The type `Place` says where a reader is in a file, for example between two units. The records of
-- a file, read one by one, lead the reader from one `Place` to the next. The `Place` determines
-- which records may follow, and whether the records are a file. A `Place` isn't a timing point.
use Rattle.std.specs.Prelude.{ℕ, List, [], ◌∷◌, Some, None, Bool, true, false, ◌++◌, ◌≡◌, Option, is_some, ◌&&◌, option_and_then}
use Rattle.std.proofs.Common.{cond}
use Rattle.docker_model.specs.records.Record.{Lines, Kind, tiploc_insert, tiploc_amend, tiploc_delete, association, basic_schedule, trailer, header, kind_of}
use Rattle.cif_laws.specs.RecordTest.{has_good_fields, is_record}
use Rattle.cif_laws.specs.ScheduleStage.{Stage, after_basic, after_journey, stage_after, may_end, is_sound_next}

-- where a reader is in a file: before the header; after the header or a complete unit; after these
-- records of a schedule; or after the trailer
pub data Place : Type 0 where
  before_header : Place
  between_units : Place
  in_schedule : (stage : Stage) → (lines : Lines) → Place
  after_end : Place

-- the `Place` to which a record of this kind leads a reader who is between two units. The result is
-- `None` if the record can't begin a unit and isn't a trailer
abbrev pub unit_by_kind : Option Kind → List ℕ → Option Place
unit_by_kind (Some tiploc_insert) line = Some between_units
unit_by_kind (Some tiploc_amend) line = Some between_units
unit_by_kind (Some tiploc_delete) line = Some between_units
unit_by_kind (Some association) line = Some between_units
unit_by_kind (Some basic_schedule) line = Some (in_schedule after_basic (line ∷ []))
unit_by_kind (Some trailer) line = Some after_end
unit_by_kind _ line = None

-- the `Place` of a reader after these records of a schedule: inside the schedule, or between units
-- if the schedule's journey is complete
abbrev pub place_in : Stage → Lines → Place
place_in after_journey lines = between_units
place_in stage lines = in_schedule stage lines

-- the `Place` with the schedule's next stage, or `other` if the schedule has no next stage
abbrev pub in_stage_or : Lines → Option Stage → Option Place → Option Place
in_stage_or lines (Some stage) other = Some (place_in stage lines)
in_stage_or lines None other = other

-- whether a record of this kind is a header
abbrev pub is_header_kind : Option Kind → Bool
is_header_kind (Some header) = true
is_header_kind _ = false

-- the `Place` to which one more record leads the reader, judged only by the record's kind. The
-- result is `None` if no record of this kind may follow
abbrev pub place_by_kind : Place → Option Kind → List ℕ → Option Place
place_by_kind before_header kind line = cond (is_header_kind kind) (Some between_units) None
place_by_kind between_units kind line = unit_by_kind kind line
place_by_kind (in_schedule stage lines) kind line =
    in_stage_or (lines ++ line ∷ []) (stage_after stage kind) (cond (may_end stage lines) (unit_by_kind kind line) None)
place_by_kind after_end kind line = None

-- whether a record that follows at this `Place` is sound. A sound record has good fields, and the
-- schedule doesn't pass midnight for the third time at this record. In a deletion neither is
-- checked
abbrev pub is_sound_at : Place → List ℕ → Bool
is_sound_at (in_schedule stage lines) line = cond (is_some (stage_after stage (kind_of line))) (is_sound_next lines line) (has_good_fields line)
is_sound_at _ line = has_good_fields line

-- the `Place` to which one more record leads the reader from this `Place`. The result is `None` if
-- no file continues with this record
abbrev pub next_place : Place → List ℕ → Option Place
next_place place line = cond (is_record line && is_sound_at place line) (place_by_kind place (kind_of line) line) None

-- the `Place` to which these records lead the reader from this `Place`. The result is `None` if no
-- file continues with these records
abbrev pub place_from : Place → Lines → Option Place
place_from place [] = Some place
place_from place (line ∷ rest) = option_and_then (λ next. place_from next rest) (next_place place line)

-- the `Place` to which these records lead the reader from the beginning of a file. The result is
-- `None` if no file begins with these records
abbrev pub place_at : Lines → Option Place
place_at records = place_from before_header records

-- a reader that has read these records from the beginning of a file is at this `Place`
abbrev pub IsPlaceOf : Lines → Place → Type 0
IsPlaceOf records place = place_at records ≡ Some place
