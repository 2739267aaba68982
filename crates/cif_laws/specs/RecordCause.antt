-- The cause of the fault at a record, given the `Place` that a reader has reached just before this
-- record. The causes are tested in the order of their ranks.
use Rattle.std.specs.Prelude.{Bool, true, false, ℕ, Some, None, List, length, Option, is_none, ◌==◌, nat_le}
use Rattle.std.proofs.Common.{cond}
use Rattle.docker_model.specs.records.Record.{kind_of, leftmost_bad_byte}
use Rattle.docker_model.specs.records.Field.{leftmost_bad_field}
use Rattle.docker_model.specs.file.FileFault.{FileCause, bad_field, third_midnight, bad_place, bad_kind, bad_byte, bad_length, after_trailer, too_many}
use Rattle.cif_laws.specs.FileStage.{Place, after_end, place_by_kind}
use Rattle.cif_laws.specs.ScheduleStage.{Stage, stage_after, is_basic_kind}

-- whether the `Place` is after the trailer
abbrev pub is_after_end : Place → Bool
is_after_end after_end = true
is_after_end _ = false

-- the cause with this column, or `other` if there is no column
abbrev pub with_column : (ℕ → FileCause) → Option ℕ → FileCause → FileCause
with_column cause (Some at) other = cause at
with_column cause None other = other

-- the cause `bad_field` with the column of the leftmost bad field, or the cause `third_midnight` if
-- all fields are good
abbrev pub field_cause : List ℕ → FileCause
field_cause line = with_column bad_field (leftmost_bad_field line) third_midnight

-- the cause `bad_place` if no record of this kind may follow at this `Place`, and otherwise
-- `field_cause`
abbrev pub place_cause : Place → List ℕ → FileCause
place_cause place line = cond (is_none (place_by_kind place (kind_of line) line)) bad_place (field_cause line)

-- the cause `bad_kind` if the record's kind is unknown, and otherwise `place_cause`
abbrev pub kind_cause : Place → List ℕ → FileCause
kind_cause place line = cond (is_none (kind_of line)) bad_kind (place_cause place line)

-- the cause `bad_byte` with the column of the leftmost byte that isn't printable, or `kind_cause`
-- if all bytes are printable
abbrev pub byte_cause : Place → List ℕ → FileCause
byte_cause place line = with_column bad_byte (leftmost_bad_byte line) (kind_cause place line)

-- the cause `bad_length` if the record doesn't have 80 bytes, and otherwise `byte_cause`
abbrev pub length_cause : Place → List ℕ → FileCause
length_cause place line = cond (length line == 80) (byte_cause place line) bad_length

-- the cause `after_trailer` if the `Place` is after the trailer, and otherwise `length_cause`
abbrev pub end_cause : Place → List ℕ → FileCause
end_cause place line = cond (is_after_end place) after_trailer (length_cause place line)

-- the cause of the fault at a record that follows `count` records: `too_many` if `count` has
-- reached the limit, and otherwise `end_cause`
abbrev pub cause_of : ℕ → ℕ → Place → List ℕ → FileCause
cause_of limit count place line = cond (nat_le limit count) too_many (end_cause place line)

-- the cause of the fault at a line that doesn't have 80 bytes and follows `count` records. The
-- cause doesn't depend on the bytes of the line
abbrev pub cause_of_long : ℕ → ℕ → Place → FileCause
cause_of_long limit count place = cond (nat_le limit count) too_many (cond (is_after_end place) after_trailer bad_length)

-- the reason why a record can't continue a schedule at this stage. The reason is the first of
-- `bad_kind`, `bad_place`, `bad_field` and `third_midnight` that applies
abbrev pub schedule_cause : Stage → List ℕ → FileCause
schedule_cause stage line = cond (is_none (kind_of line)) bad_kind (cond (is_none (stage_after stage (kind_of line))) bad_place (field_cause line))

-- the reason why a record can't be the first record of a schedule. The first record must be a basic
-- schedule. The reason is the first of `bad_kind`, `bad_place` and `bad_field` that applies
abbrev pub first_line_cause : List ℕ → FileCause
first_line_cause line = cond (is_none (kind_of line)) bad_kind (cond (is_basic_kind (kind_of line)) (field_cause line) bad_place)
