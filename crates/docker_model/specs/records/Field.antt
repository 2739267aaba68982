-- The fields that are checked in each kind of record, in the order of their columns. If several
-- fields are bad, the leftmost field is reported. Each definition says how wide its field is.
use Rattle.std.specs.Prelude.{ℕ, Bool, List, ◌||◌, ◌==◌, slice_index, not, ◌≡◌, IsTrue, slice_set}
use Rattle.std.specs.Prelude.{if◌then◌else◌, [], ◌∷◌, ◌++◌, Option, Some, None, option_map, find}
use Rattle.docker_model.specs.records.Record.{IsTextOfLength, column, Kind, header, tiploc_insert, tiploc_amend, tiploc_delete}
use Rattle.docker_model.specs.records.Record.{association, basic_schedule, extra_details, origin_location, intermediate_location}
use Rattle.docker_model.specs.records.Record.{terminating_location, change_en_route, trailer, kind_of, columns}
use Rattle.docker_model.specs.records.Date.{is_date, is_date_day_first, is_end_date, is_days}
use Rattle.docker_model.specs.records.Clock.{is_blank, is_clock, is_present_time, is_scheduled_time, is_public_time}

-- a field that is checked: its first and last columns, and a test of whether its bytes are good
pub record CheckedField : Type 0 where
  pub first : ℕ
  pub last : ℕ
  pub is_good : List ℕ → Bool

-- the checked field from column `from` to column `to`, with this test
abbrev pub checked : ℕ → ℕ → (List ℕ → Bool) → CheckedField
checked from to test = record { first = from; last = to; is_good = test }

-- whether one byte is an update indicator: F for a full extract, U for an update
abbrev pub is_update_indicator : List ℕ → Bool
is_update_indicator field = (slice_index field 0 == 70) || (slice_index field 0 == 85)

-- whether seven bytes may be a TIPLOC: the first byte isn't a space
abbrev pub is_tiploc : List ℕ → Bool
is_tiploc field = not (slice_index field 0 == 32)

-- these bytes are a TIPLOC: seven printable bytes, the first of which isn't a space
abbrev pub IsTiploc : List ℕ → Type 0
IsTiploc code = IsTextOfLength 7 code × ¬ (slice_index code 0 ≡ 32)

-- whether seven bytes may be an amendment's new TIPLOC, which is blank if the code stays the same
abbrev pub is_new_tiploc : List ℕ → Bool
is_new_tiploc field = is_blank field || is_tiploc field

-- whether one byte is a transaction: N for new, D for delete, R for revise
abbrev pub is_transaction : List ℕ → Bool
is_transaction field = (slice_index field 0 == 78) || (slice_index field 0 == 68) || (slice_index field 0 == 82)

-- whether the letter is an STP indicator: P permanent, N new, O overlay, C cancellation
abbrev pub is_stp_letter : ℕ → Bool
is_stp_letter b = (b == 80) || (b == 78) || (b == 79) || (b == 67)

-- the letter is an STP indicator: P, N, O or C
abbrev pub IsStpLetter : ℕ → Type 0
IsStpLetter letter = IsTrue (is_stp_letter letter)

-- whether one byte is an STP indicator: P, N, O or C
abbrev pub is_stp_indicator : List ℕ → Bool
is_stp_indicator field = is_stp_letter (slice_index field 0)

-- whether an association or a basic schedule is a deletion: its transaction is D
abbrev pub is_deletion : List ℕ → Bool
is_deletion line = column 3 line == 68

-- the transaction in column 3 of the record is N, for new
abbrev pub HasNewTransaction : List ℕ → Type 0
HasNewTransaction line = column 3 line ≡ 78

-- the record with its transaction, column 3, set to N
abbrev pub as_new : List ℕ → List ℕ
as_new line = slice_set line 2 78

-- the fields that are checked in a record of this kind. In a deletion neither the end date nor the
-- days-run field is checked
abbrev pub checked_fields : Kind → List ℕ → List CheckedField
checked_fields header line =
    checked 23 28 is_date_day_first ∷ checked 29 32 is_clock ∷ checked 47 47 is_update_indicator ∷ []
checked_fields tiploc_insert line = checked 3 9 is_tiploc ∷ []
checked_fields tiploc_amend line = checked 3 9 is_tiploc ∷ checked 73 79 is_new_tiploc ∷ []
checked_fields tiploc_delete line = checked 3 9 is_tiploc ∷ []
checked_fields association line =
    checked 3 3 is_transaction ∷ checked 16 21 is_date
    ∷ (if is_deletion line then [] else checked 22 27 is_end_date ∷ checked 28 34 is_days ∷ [])
    ++ checked 38 44 is_tiploc ∷ checked 80 80 is_stp_indicator ∷ []
checked_fields basic_schedule line =
    checked 3 3 is_transaction ∷ checked 10 15 is_date
    ∷ (if is_deletion line then [] else checked 16 21 is_end_date ∷ checked 22 28 is_days ∷ [])
    ++ checked 80 80 is_stp_indicator ∷ []
checked_fields extra_details line = []
checked_fields origin_location line =
    checked 3 9 is_tiploc ∷ checked 11 15 is_present_time ∷ checked 16 19 is_public_time ∷ []
checked_fields intermediate_location line =
    checked 3 9 is_tiploc ∷ checked 11 15 is_scheduled_time ∷ checked 16 20 is_scheduled_time
    ∷ checked 21 25 is_scheduled_time ∷ checked 26 29 is_public_time ∷ checked 30 33 is_public_time ∷ []
checked_fields terminating_location line =
    checked 3 9 is_tiploc ∷ checked 11 15 is_present_time ∷ checked 16 19 is_public_time ∷ []
checked_fields change_en_route line = []
checked_fields trailer line = []

-- the fields that are checked in a record. A record of an unknown kind has no checked fields
abbrev pub fields_of : Option Kind → List ℕ → List CheckedField
fields_of None line = []
fields_of (Some kind) line = checked_fields kind line

-- the first column of the record's leftmost bad field, or `None` if every field is good. The line
-- must have 80 bytes
abbrev pub leftmost_bad_field : List ℕ → Option ℕ
leftmost_bad_field line =
    option_map (λ (field : CheckedField). field.first)
    (find (λ field. not (field.is_good (columns field.first field.last line))) (fields_of (kind_of line) line))

-- every checked field of the record is good. The line must have 80 bytes
abbrev pub HasGoodFields : List ℕ → Type 0
HasGoodFields line = leftmost_bad_field line ≡ None
