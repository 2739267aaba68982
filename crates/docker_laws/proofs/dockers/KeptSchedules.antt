-- Lemmas on well-formed schedules, and on the fields of their first records.
use Rattle.cif_laws.proofs.Common.{◌≡◌, ℕ, ◌<◌, List, true, false, Bool, cond, [], ◌∷◌, ◌++◌, length, subst, ap, sym, arith, ◌==◌, AllByRecursion}
use Rattle.cif_laws.proofs.Common.{basic_schedule, HasKind, columns, is_date, is_end_date, is_days, CheckedField, checked, HasGoodFields, is_deletion}
use Rattle.cif_laws.proofs.Common.{is_stp_indicator, ScheduleKey, first_record, IsScheduleOf}
use Rattle.cif_laws.proofs.records.Columns.{good_fields, IsGoodIn}

-- ---- the first record of a well-formed schedule is a good basic schedule

-- the first record of a well-formed schedule is a basic schedule
pub first_kind : (key : ScheduleKey) (lines : List (List ℕ)) → IsScheduleOf key lines → HasKind basic_schedule (first_record lines)
first_kind key lines of = subst (λ (ls : List (List ℕ)). HasKind basic_schedule (first_record ls)) (sym of.schedule.whole) of.schedule.kind

-- the first record of a well-formed schedule has good fields
pub first_good : (key : ScheduleKey) (lines : List (List ℕ)) → IsScheduleOf key lines → HasGoodFields (first_record lines)
first_good key lines of = subst (λ (ls : List (List ℕ)). HasGoodFields (first_record ls)) (sym of.schedule.whole) of.schedule.fields

-- the first record of a well-formed schedule isn't a deletion
pub first_stays : (key : ScheduleKey) (lines : List (List ℕ)) → IsScheduleOf key lines → is_deletion (first_record lines) ≡ false
first_stays key lines of = ap (λ (n : ℕ). n == 68) of.new

-- a well-formed schedule has a first record
pub first_there : (key : ScheduleKey) (lines : List (List ℕ)) → IsScheduleOf key lines → 0 < length lines
first_there key lines of = subst (λ (ls : List (List ℕ)). 0 < length ls) (sym of.schedule.whole) (omega arith)

-- ---- the dates and the days run of a good basic schedule are well formed

-- the runs-from field of a good basic schedule is a date
pub schedule_first : (line : List ℕ) → HasKind basic_schedule line → HasGoodFields line → is_date (columns 10 15 line) ≡ true
schedule_first line is good = (good_fields basic_schedule line is good).1.0

-- the checked fields of a basic schedule that come after the runs-from date
abbrev schedule_later : Bool → List CheckedField
schedule_later deletion = cond deletion [] (checked 16 21 is_end_date ∷ checked 22 28 is_days ∷ []) ++ checked 80 80 is_stp_indicator ∷ []

later_good : (line : List ℕ) → HasKind basic_schedule line → HasGoodFields line → is_deletion line ≡ false
    → AllByRecursion (IsGoodIn line) (schedule_later false)
later_good line is good stays = subst (λ b. AllByRecursion (IsGoodIn line) (schedule_later b)) stays (good_fields _ line is good).1.1

-- the runs-to field of a good basic schedule is an end date, unless the record is a deletion
pub schedule_last : (line : List ℕ) → HasKind basic_schedule line → HasGoodFields line → is_deletion line ≡ false → is_end_date (columns 16 21 line) ≡ true
schedule_last line is good stays = (later_good line is good stays).0

-- the days-run field of a good basic schedule has seven digits, each 0 or 1, unless the record is a
-- deletion
pub schedule_days : (line : List ℕ) → HasKind basic_schedule line → HasGoodFields line → is_deletion line ≡ false → is_days (columns 22 28 line) ≡ true
schedule_days line is good stays = (later_good line is good stays).1.0
