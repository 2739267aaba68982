-- The first line of a schedule's body, whose fields decide when the schedule runs.
use Rattle.cif_laws.proofs.Common.{◌≡◌, ℕ, ◌<◌, List, false, length, rules, basic_schedule, HasKind, HasGoodFields, is_deletion, Key, schedule_body}
use Rattle.cif_laws.proofs.Common.{first_record, put_with, IsOpOf}

-- a schedule's body that fits its key has a first line. This line is a basic schedule with good fields, and isn't a deletion
pub first_line_fits : (key : Key) (lines : List (List ℕ)) → IsOpOf key (put_with (schedule_body lines))
    → HasKind basic_schedule (first_record lines) × HasGoodFields (first_record lines) × (is_deletion (first_record lines) ≡ false) × (0 < length lines)
first_line_fits = search rules

pub ruleset kept_schedule = (first_line_fits)
