-- The fields that determine on which days a basic schedule or an association runs. Each of these
-- fields is well formed if the record has good fields.
use Rattle.cif_laws.proofs.Common.{◌≡◌, ℕ, List, true, false, Bool, rules, ◌&&◌, association, HasKind, columns, is_date, is_end_date, is_days, HasGoodFields}
use Rattle.cif_laws.proofs.Common.{is_deletion}
use Rattle.cif_line.proofs.GoodFields.{assoc_days, assoc_end, assoc_start}
use Rattle.docker_laws.proofs.dockers.KeptSchedules.{schedule_first, schedule_last, schedule_days}

-- the conjunction of three tests is associative
pub three_tests : (a b c : Bool) → (a && (b && c)) ≡ ((a && b) && c)
three_tests = search rules

pub ruleset schedule_fields = (schedule_first, schedule_last, schedule_days, three_tests)

-- the first date of an association is a date
pub association_first : (line : List ℕ) → HasKind association line → HasGoodFields line → is_date (columns 16 21 line) ≡ true
association_first line is good = assoc_start line (record { has_kind = is; good_fields = good })

-- the last date of an association is an end date: a date, or `999999` for no end
pub association_last : (line : List ℕ) → HasKind association line → HasGoodFields line → is_deletion line ≡ false → is_end_date (columns 22 27 line) ≡ true
association_last line is good stays = assoc_end line (record { has_kind = is; good_fields = good }) stays

-- the days-run field of an association has seven flags, each `0` or `1`
pub association_days : (line : List ℕ) → HasKind association line → HasGoodFields line → is_deletion line ≡ false → is_days (columns 28 34 line) ≡ true
association_days line is good stays = assoc_days line (record { has_kind = is; good_fields = good }) stays

pub ruleset association_fields = (association_first, association_last, association_days, three_tests)
