-- The leftmost bad field of a header, a TIPLOC record, an association or a basic schedule. A field
-- is the leftmost bad field if it is bad and all checked fields to its left are good.
use Rattle.cif_laws.proofs.Common.{◌≡◌, ℕ, List, true, false, cond, [], ◌∷◌, ◌++◌, Some, None, ap, ◌∙◌, rules, not, option_map, find, Option, AllByRecursion}
use Rattle.cif_laws.proofs.Common.{Kind, HasKind, header, tiploc_amend, association, basic_schedule, columns, is_date, is_date_day_first, is_end_date, is_days}
use Rattle.cif_laws.proofs.Common.{is_clock, CheckedField, checked, checked_fields, leftmost_bad_field, is_tiploc, is_new_tiploc, is_transaction}
use Rattle.cif_laws.proofs.Common.{is_stp_indicator, is_deletion}
use Rattle.docker_model.specs.records.Field.{fields_of}
use Rattle.docker_model.specs.records.Field.{is_update_indicator}
use Rattle.cif_laws.proofs.records.Columns.{IsGoodIn, fields_good}
use Rattle.cif_line.specs.View.{IsTiplocRecord}

-- the first column of the first bad field in a list of checked fields. The result is `None` if all
-- these fields are good in the line
unfoldable pub first_bad : List ℕ → List CheckedField → Option ℕ
first_bad line fields = option_map (λ (field : CheckedField). field.first) (find (λ field. not (field.is_good (columns field.first field.last line))) fields)

-- the leftmost bad field of a line is the first bad field in the list of its kind's checked fields
by_kind : (kind : Kind) (line : List ℕ) → HasKind kind line → leftmost_bad_field line ≡ first_bad line (checked_fields kind line)
unfolding first_bad
by_kind kind line is = ap (λ k. first_bad line (fields_of k line)) is

-- if one field is bad, and all fields before it in the list are good, this field is the first bad field
pub behind_good : (line : List ℕ) (before : List CheckedField) (field : CheckedField) (after : List CheckedField)
    → AllByRecursion (IsGoodIn line) before → field.is_good (columns field.first field.last line) ≡ false
    → first_bad line (before ++ field ∷ after) ≡ Some field.first
unfolding first_bad
behind_good line [] field after good bad = cc
behind_good line (one ∷ before) field after good bad =
    (λ i. option_map (λ (f : CheckedField). f.first)
    (cond (not (good.0 i)) (Some one) (find (λ f. not (f.is_good (columns f.first f.last line))) (before ++ field ∷ after))))
    ∙ behind_good line before field after good.1 bad

-- if a header's date of extract is bad, the leftmost bad field is at column 23
pub header_bad_day : (line : List ℕ) → HasKind header line → is_date_day_first (columns 23 28 line) ≡ false → leftmost_bad_field line ≡ Some 23
header_bad_day line is bad = by_kind header line is ∙ behind_good line [] (checked 23 28 is_date_day_first) _ tt bad

-- if a header's date is good and its time of extract is bad, the leftmost bad field is at column 29
pub header_bad_minute : (line : List ℕ) → HasKind header line → is_date_day_first (columns 23 28 line) ≡ true → is_clock (columns 29 32 line) ≡ false
    → leftmost_bad_field line ≡ Some 29
header_bad_minute line is day bad = by_kind header line is ∙ behind_good line (checked 23 28 is_date_day_first ∷ []) (checked 29 32 is_clock) _ (day, tt) bad

-- if a header's date and time of extract are good and its update indicator is bad, the leftmost bad
-- field is at column 47
pub header_bad_indicator : (line : List ℕ) → HasKind header line → is_date_day_first (columns 23 28 line) ≡ true → is_clock (columns 29 32 line) ≡ true
    → is_update_indicator (columns 47 47 line) ≡ false → leftmost_bad_field line ≡ Some 47
header_bad_indicator = search (rules, by_kind, behind_good)

-- the lemmas on the leftmost bad field of a header
pub ruleset header_faults = (header_bad_day, header_bad_minute, header_bad_indicator)

-- suppose that a basic schedule isn't a deletion. If its runs-to date is bad, and the fields to the
-- left are good, the leftmost bad field is at column 16
pub basic_bad_end : (line : List ℕ) → HasKind basic_schedule line → is_transaction (columns 3 3 line) ≡ true → is_date (columns 10 15 line) ≡ true
    → is_deletion line ≡ false → is_end_date (columns 16 21 line) ≡ false → leftmost_bad_field line ≡ Some 16
basic_bad_end = search (rules, by_kind, behind_good)

-- suppose that a basic schedule isn't a deletion. If its days-run field is bad, and the fields to
-- the left are good, the leftmost bad field is at column 22
pub basic_bad_days : (line : List ℕ) → HasKind basic_schedule line → is_transaction (columns 3 3 line) ≡ true → is_date (columns 10 15 line) ≡ true
    → is_deletion line ≡ false → is_end_date (columns 16 21 line) ≡ true → is_days (columns 22 28 line) ≡ false → leftmost_bad_field line ≡ Some 22
basic_bad_days = search (rules, by_kind, behind_good)

-- suppose that a basic schedule isn't a deletion. If its STP indicator is bad, and the fields to
-- the left are good, the leftmost bad field is at column 80
pub basic_bad_stp_kept : (line : List ℕ) → HasKind basic_schedule line → is_transaction (columns 3 3 line) ≡ true → is_date (columns 10 15 line) ≡ true
    → is_deletion line ≡ false → is_end_date (columns 16 21 line) ≡ true → is_days (columns 22 28 line) ≡ true
    → is_stp_indicator (columns 80 80 line) ≡ false → leftmost_bad_field line ≡ Some 80
basic_bad_stp_kept = search (rules, by_kind, behind_good)

-- suppose that a basic schedule is a deletion. If its STP indicator is bad, and its transaction and
-- its runs-from date are good, the leftmost bad field is at column 80
pub basic_bad_stp_deleted : (line : List ℕ) → HasKind basic_schedule line → is_transaction (columns 3 3 line) ≡ true → is_date (columns 10 15 line) ≡ true
    → is_deletion line ≡ true → is_stp_indicator (columns 80 80 line) ≡ false → leftmost_bad_field line ≡ Some 80
basic_bad_stp_deleted = search (rules, by_kind, behind_good)

-- the lemmas on the leftmost bad field of a basic schedule
pub ruleset basic_faults = (basic_bad_end, basic_bad_days, basic_bad_stp_kept, basic_bad_stp_deleted)

-- suppose that an association isn't a deletion. If its end date is bad, and the fields to the left
-- are good, the leftmost bad field is at column 22
pub assoc_bad_end : (line : List ℕ) → HasKind association line → is_transaction (columns 3 3 line) ≡ true → is_date (columns 16 21 line) ≡ true
    → is_deletion line ≡ false → is_end_date (columns 22 27 line) ≡ false → leftmost_bad_field line ≡ Some 22
assoc_bad_end = search (rules, by_kind, behind_good)

-- suppose that an association isn't a deletion. If its days-run field is bad, and the fields to the
-- left are good, the leftmost bad field is at column 28
pub assoc_bad_days : (line : List ℕ) → HasKind association line → is_transaction (columns 3 3 line) ≡ true → is_date (columns 16 21 line) ≡ true
    → is_deletion line ≡ false → is_end_date (columns 22 27 line) ≡ true → is_days (columns 28 34 line) ≡ false → leftmost_bad_field line ≡ Some 28
assoc_bad_days = search (rules, by_kind, behind_good)

-- suppose that an association isn't a deletion. If its TIPLOC is bad, and the fields to the left
-- are good, the leftmost bad field is at column 38
pub assoc_bad_place_kept : (line : List ℕ) → HasKind association line → is_transaction (columns 3 3 line) ≡ true → is_date (columns 16 21 line) ≡ true
    → is_deletion line ≡ false → is_end_date (columns 22 27 line) ≡ true → is_days (columns 28 34 line) ≡ true → is_tiploc (columns 38 44 line) ≡ false
    → leftmost_bad_field line ≡ Some 38
assoc_bad_place_kept = search (rules, by_kind, behind_good)

-- suppose that an association is a deletion. If its TIPLOC is bad, and its transaction and its
-- first date are good, the leftmost bad field is at column 38
pub assoc_bad_place_deleted : (line : List ℕ) → HasKind association line → is_transaction (columns 3 3 line) ≡ true → is_date (columns 16 21 line) ≡ true
    → is_deletion line ≡ true → is_tiploc (columns 38 44 line) ≡ false → leftmost_bad_field line ≡ Some 38
assoc_bad_place_deleted = search (rules, by_kind, behind_good)

-- suppose that an association isn't a deletion. If its STP indicator is bad, and the fields to the
-- left are good, the leftmost bad field is at column 80
pub assoc_bad_stp_kept : (line : List ℕ) → HasKind association line → is_transaction (columns 3 3 line) ≡ true → is_date (columns 16 21 line) ≡ true
    → is_deletion line ≡ false → is_end_date (columns 22 27 line) ≡ true → is_days (columns 28 34 line) ≡ true → is_tiploc (columns 38 44 line) ≡ true
    → is_stp_indicator (columns 80 80 line) ≡ false → leftmost_bad_field line ≡ Some 80
assoc_bad_stp_kept = search (rules, by_kind, behind_good)

-- suppose that an association is a deletion. If its STP indicator is bad, and the checked fields to
-- the left are good, the leftmost bad field is at column 80
pub assoc_bad_stp_deleted : (line : List ℕ) → HasKind association line → is_transaction (columns 3 3 line) ≡ true → is_date (columns 16 21 line) ≡ true
    → is_deletion line ≡ true → is_tiploc (columns 38 44 line) ≡ true → is_stp_indicator (columns 80 80 line) ≡ false → leftmost_bad_field line ≡ Some 80
assoc_bad_stp_deleted = search (rules, by_kind, behind_good)

-- the lemmas on the leftmost bad field of an association
pub ruleset assoc_faults = (assoc_bad_end, assoc_bad_days, assoc_bad_place_kept, assoc_bad_place_deleted, assoc_bad_stp_kept, assoc_bad_stp_deleted)

-- if the code of a TIPLOC record is bad, the leftmost bad field is at column 3
pub tiploc_bad_code : (line : List ℕ) → IsTiplocRecord line → is_tiploc (columns 3 9 line) ≡ false → leftmost_bad_field line ≡ Some 3
tiploc_bad_code = search (rules, by_kind, behind_good)

-- if an amendment's code is good and its new code is bad, the leftmost bad field is at column 73
pub tiploc_bad_new_code : (line : List ℕ) → HasKind tiploc_amend line → is_tiploc (columns 3 9 line) ≡ true → is_new_tiploc (columns 73 79 line) ≡ false
    → leftmost_bad_field line ≡ Some 73
tiploc_bad_new_code = search (rules, by_kind, behind_good)

-- an amendment whose code and new code are good has no bad field
pub tiploc_amended : (line : List ℕ) → HasKind tiploc_amend line → is_tiploc (columns 3 9 line) ≡ true → is_new_tiploc (columns 73 79 line) ≡ true
    → leftmost_bad_field line ≡ None
tiploc_amended line amends code new = fields_good tiploc_amend line amends (code, (new, tt))

-- an insert or a deletion whose code is good has no bad field
pub tiploc_not_amended : (line : List ℕ) → IsTiplocRecord line → ¬ HasKind tiploc_amend line → is_tiploc (columns 3 9 line) ≡ true
    → leftmost_bad_field line ≡ None
tiploc_not_amended = search (rules, fields_good)

-- the lemmas on the leftmost bad field of a TIPLOC record
pub ruleset tiploc_faults = (tiploc_bad_code, tiploc_bad_new_code, tiploc_amended, tiploc_not_amended)
