-- If a record is good, each of its checked fields is good. There is one lemma for each checked field of each kind of record.
use Rattle.cif_laws.proofs.Common.{◌≡◌, ℕ, List, true, false, [], ◌∷◌, None, refl, subst, arith, rules, AllByRecursion, Kind, header, tiploc_amend, association}
use Rattle.cif_laws.proofs.Common.{basic_schedule, origin_location, intermediate_location, terminating_location, HasKind, kind_of, columns, column, is_date}
use Rattle.cif_laws.proofs.Common.{is_date_day_first, is_end_date, is_days, is_clock, is_public_time, checked_fields, HasGoodFields, is_tiploc, is_new_tiploc}
use Rattle.cif_laws.proofs.Common.{is_transaction, is_stp_indicator, is_stp_letter, is_deletion}
use Rattle.docker_model.specs.records.Field.{is_update_indicator}
use Rattle.cif_laws.proofs.records.Columns.{good_fields, IsGoodIn, one_column}
use Rattle.cif_line.specs.View.{IsGood, IsGoodTiploc, IsTiplocRecord, new_code_of}

-- in a good record of a kind, each of the kind's checked fields is good
each_good : (kind : Kind) (line : List ℕ) → IsGood kind line → AllByRecursion (IsGoodIn line) (checked_fields kind line)
each_good kind line good = good_fields kind line good.has_kind good.good_fields

-- columns 23 to 28 of a good header, the date of extract, are a date
pub header_day : (line : List ℕ) → IsGood header line → is_date_day_first (columns 23 28 line) ≡ true
header_day line good = (each_good header line good).0

-- columns 29 to 32 of a good header, the time of extract, are a time HHMM
pub header_minute : (line : List ℕ) → IsGood header line → is_clock (columns 29 32 line) ≡ true
header_minute line good = (each_good header line good).1.0

-- column 47 of a good header, the update indicator, is F or U
pub header_extract : (line : List ℕ) → IsGood header line → is_update_indicator (column 47 line ∷ []) ≡ true
header_extract line good = subst (λ b. is_update_indicator (b ∷ []) ≡ true) (one_column line 47 (omega arith)) (each_good header line good).1.1.0

-- the lemmas on the checked fields of a good header
pub ruleset header_fields = (header_day, header_minute, header_extract)

-- columns 3 to 9 of a good origin are a TIPLOC
pub origin_tiploc : (line : List ℕ) → IsGood origin_location line → is_tiploc (columns 3 9 line) ≡ true
origin_tiploc line good = (each_good origin_location line good).0

-- columns 16 to 19 of a good origin, the public departure, are a time HHMM or blank
pub origin_public : (line : List ℕ) → IsGood origin_location line → is_public_time (columns 16 19 line) ≡ true
origin_public line good = (each_good origin_location line good).1.1.0

-- the lemmas on the checked fields of a good origin
pub ruleset origin_fields = (origin_tiploc, origin_public)

-- columns 3 to 9 of a good terminus are a TIPLOC
pub terminus_tiploc : (line : List ℕ) → IsGood terminating_location line → is_tiploc (columns 3 9 line) ≡ true
terminus_tiploc line good = (each_good terminating_location line good).0

-- columns 16 to 19 of a good terminus, the public arrival, are a time HHMM or blank
pub terminus_public : (line : List ℕ) → IsGood terminating_location line → is_public_time (columns 16 19 line) ≡ true
terminus_public line good = (each_good terminating_location line good).1.1.0

-- the lemmas on the checked fields of a good terminus
pub ruleset terminus_fields = (terminus_tiploc, terminus_public)

-- column 3 of a good basic schedule, the transaction, is N, D or R
pub basic_transaction : (line : List ℕ) → IsGood basic_schedule line → is_transaction (column 3 line ∷ []) ≡ true
basic_transaction line good = subst (λ b. is_transaction (b ∷ []) ≡ true) (one_column line 3 (omega arith)) (each_good basic_schedule line good).0

-- columns 10 to 15 of a good basic schedule, the runs-from date, are a date
pub basic_runs_from : (line : List ℕ) → IsGood basic_schedule line → is_date (columns 10 15 line) ≡ true
basic_runs_from line good = (each_good basic_schedule line good).1.0

-- columns 16 to 21 of a good basic schedule, the runs-to date, are an end date unless the record is a deletion
pub basic_runs_to : (line : List ℕ) → IsGood basic_schedule line → is_deletion line ≡ false → is_end_date (columns 16 21 line) ≡ true
basic_runs_to line good kept = (rw kept at (each_good basic_schedule line good)).1.1.0

-- columns 22 to 28 of a good basic schedule are the days-run field. Each of these bytes is `0` or `1`, unless the record is a deletion
pub basic_days : (line : List ℕ) → IsGood basic_schedule line → is_deletion line ≡ false → is_days (columns 22 28 line) ≡ true
basic_days line good kept = (rw kept at (each_good basic_schedule line good)).1.1.1.0

-- column 80 of a good basic schedule, the STP indicator, is P, N, O or C
pub basic_stp : (line : List ℕ) → IsGood basic_schedule line → is_stp_letter (column 80 line) ≡ true
basic_stp line good = subst (λ b. is_stp_letter b ≡ true) (one_column line 80 (omega arith))
    ((elim (is_deletion line) as (λ deletion. is_deletion line ≡ deletion → is_stp_indicator (columns 80 80 line) ≡ true) [
      | true ↦ λ is. (rw is at (each_good basic_schedule line good)).1.1.0
      | false ↦ λ is. (rw is at (each_good basic_schedule line good)).1.1.1.1.0
    ]) refl)

-- the lemmas on the checked fields of a good basic schedule
pub ruleset basic_fields = (basic_transaction, basic_runs_from, basic_runs_to, basic_days, basic_stp)

-- column 3 of a good association, the transaction, is N, D or R
pub assoc_transaction : (line : List ℕ) → IsGood association line → is_transaction (column 3 line ∷ []) ≡ true
assoc_transaction line good = subst (λ b. is_transaction (b ∷ []) ≡ true) (one_column line 3 (omega arith)) (each_good association line good).0

-- columns 16 to 21 of a good association, its first date, are a date
pub assoc_start : (line : List ℕ) → IsGood association line → is_date (columns 16 21 line) ≡ true
assoc_start line good = (each_good association line good).1.0

-- columns 22 to 27 of a good association are an end date unless the record is a deletion
pub assoc_end : (line : List ℕ) → IsGood association line → is_deletion line ≡ false → is_end_date (columns 22 27 line) ≡ true
assoc_end line good kept = (rw kept at (each_good association line good)).1.1.0

-- columns 28 to 34 of a good association are the days-run field. Each of these bytes is `0` or `1`, unless the record is a deletion
pub assoc_days : (line : List ℕ) → IsGood association line → is_deletion line ≡ false → is_days (columns 28 34 line) ≡ true
assoc_days line good kept = (rw kept at (each_good association line good)).1.1.1.0

-- the TIPLOC and the STP indicator of a good association are good, even in a deletion
assoc_last : (line : List ℕ) → IsGood association line → (is_tiploc (columns 38 44 line) ≡ true) × (is_stp_indicator (columns 80 80 line) ≡ true)
assoc_last line good =
    (elim (is_deletion line) as (λ deletion. is_deletion line ≡ deletion
    → (is_tiploc (columns 38 44 line) ≡ true) × (is_stp_indicator (columns 80 80 line) ≡ true)) [
      | true ↦ λ is. let all = rw is at (each_good association line good) in (all.1.1.0, all.1.1.1.0)
      | false ↦ λ is. let all = rw is at (each_good association line good) in (all.1.1.1.1.0, all.1.1.1.1.1.0)
    ]) refl

-- columns 38 to 44 of a good association are a TIPLOC
pub assoc_location : (line : List ℕ) → IsGood association line → is_tiploc (columns 38 44 line) ≡ true
assoc_location line good = (assoc_last line good).0

-- column 80 of a good association, the STP indicator, is P, N, O or C
pub assoc_stp : (line : List ℕ) → IsGood association line → is_stp_letter (column 80 line) ≡ true
assoc_stp line good = subst (λ b. is_stp_letter b ≡ true) (one_column line 80 (omega arith)) (assoc_last line good).1

-- the lemmas on the checked fields of a good association
pub ruleset assoc_fields = (assoc_transaction, assoc_start, assoc_end, assoc_days, assoc_location, assoc_stp)

-- columns 3 to 9 of a good intermediate location are a TIPLOC
pub call_tiploc : (line : List ℕ) → IsGood intermediate_location line → is_tiploc (columns 3 9 line) ≡ true
call_tiploc line good = (each_good intermediate_location line good).0

-- columns 26 to 29 of a good intermediate location, the public arrival, are a time HHMM or blank
pub call_public_arrival : (line : List ℕ) → IsGood intermediate_location line → is_public_time (columns 26 29 line) ≡ true
call_public_arrival line good = (each_good intermediate_location line good).1.1.1.1.0

-- columns 30 to 33 of a good intermediate location, the public departure, are a time HHMM or blank
pub call_public_departure : (line : List ℕ) → IsGood intermediate_location line → is_public_time (columns 30 33 line) ≡ true
call_public_departure line good = (each_good intermediate_location line good).1.1.1.1.1.0

-- the lemmas on the checked fields of a good intermediate location
pub ruleset call_fields = (call_tiploc, call_public_arrival, call_public_departure)

-- columns 3 to 9 of a good TIPLOC record, its code, are a TIPLOC
pub tiploc_code : (line : List ℕ) → IsGoodTiploc line → is_tiploc (columns 3 9 line) ≡ true
tiploc_code line good = good.code

-- columns 73 to 79 of a good amendment, its new code, are a TIPLOC or blank
pub tiploc_new_code : (line : List ℕ) → IsGoodTiploc line → HasKind tiploc_amend line → is_new_tiploc (columns 73 79 line) ≡ true
tiploc_new_code line good amends = good.new_code amends

-- a TIPLOC record that isn't an amendment has no new code
pub no_new_code : (line : List ℕ) → ¬ HasKind tiploc_amend line → new_code_of (kind_of line) line ≡ None
no_new_code = search rules

-- the lemmas on the checked fields of a good TIPLOC record
pub ruleset tiploc_fields = (tiploc_code, tiploc_new_code, no_new_code)

-- if the checked fields of a TIPLOC record are good, its code is good. In an amendment the new code is good too
pub is_good_tiploc : (line : List ℕ) → IsTiplocRecord line → HasGoodFields line → IsGoodTiploc line
is_good_tiploc = search (rules, good_fields)

-- the lemma on which the view of a TIPLOC record depends: if its checked fields are good, `IsGoodTiploc` holds
pub ruleset tiploc_views = (is_good_tiploc)
