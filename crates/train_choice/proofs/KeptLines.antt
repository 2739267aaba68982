-- Facts about a schedule whose lines fit its key, and about an association whose record fits its
-- key.
use Rattle.cif_laws.proofs.Common.{◌≡◌, ℕ, ◌<◌, ◌≤◌, ◌^◌, false, List, length, ap, All, arith, rules, ◌==◌, ◌&&◌, nat_le, AllByRecursion, recursion_from_All}
use Rattle.cif_laws.proofs.Common.{association, HasKind, columns, HasGoodFields, is_deletion, AreExtraDetails, first_record, AssociationKey, ScheduleKey}
use Rattle.cif_laws.proofs.Common.{schedule_key, schedule_runs, falls_to, IsAssociationOf, IsScheduleOf}
use Rattle.cif_laws.proofs.records.Columns.{fields_good}
use Rattle.cif_laws.proofs.lists.AllOf.{all_append}
use Rattle.docker_laws.proofs.dockers.FewMidnights.{few_midnights, falls_below}
use Rattle.docker_laws.proofs.dockers.KeptSchedules.{first_kind, first_good, first_stays, first_there}
use Rattle.train_choice.specs.Runs.{runs_until}
use Rattle.train_choice.proofs.RunFields.{three_tests}

-- the number of a schedule's lines fits in 32 bits
pub lines_few : (key : ScheduleKey) (lines : List (List ℕ)) → IsScheduleOf key lines → length lines < 2 ^ 32
lines_few key lines of = let few = of.few in omega arith

details_good : (extra : List (List ℕ)) → AreExtraDetails extra → AllByRecursion HasGoodFields extra
details_good = search (rules, fields_good)

-- each line of a schedule has good fields
pub lines_good : (key : ScheduleKey) (lines : List (List ℕ)) → IsScheduleOf key lines → All HasGoodFields lines
lines_good = search (rules, all_append, details_good, first_stays, recursion_from_All)

-- a train passes midnight at most twice before any event
pub falls_few : (key : ScheduleKey) (lines : List (List ℕ)) (number : ℕ) → IsScheduleOf key lines → falls_to lines number ≤ 2
falls_few key lines number of = let all = few_midnights key lines of in let some = falls_below lines number in omega arith

-- ---- the runs-from date in a schedule's key determines when the schedule begins

same_key : (a b : ScheduleKey) → schedule_key a ≡ schedule_key b → a ≡ b
same_key a b h = cc

-- a schedule runs on a day if and only if the day is within the schedule's dates, and the weekday
-- of the day is among its days run. The first date is the runs-from date in the schedule's key
pub runs_by_key : (key : ScheduleKey) (lines : List (List ℕ)) (day : ℕ) → IsScheduleOf key lines
    → (nat_le key.runs_from day && runs_until (columns 16 21 (first_record lines)) (columns 22 28 (first_record lines)) day)
    ≡ schedule_runs (first_record lines) day
runs_by_key = search (rules, same_key, three_tests)

pub ruleset kept_lines = (first_kind, first_good, first_stays, first_there, lines_few, lines_good, runs_by_key)

-- ---- the record of an association

-- a record that fits an association's key is an association (AA)
pub link_kind : (key : AssociationKey) (line : List ℕ) → IsAssociationOf key line → HasKind association line
link_kind key line of = of.kind

-- the checked fields of an association's record are good
pub link_good : (key : AssociationKey) (line : List ℕ) → IsAssociationOf key line → HasGoodFields line
link_good key line of = of.fields

-- the record of an association isn't a deletion
pub link_stays : (key : AssociationKey) (line : List ℕ) → IsAssociationOf key line → is_deletion line ≡ false
link_stays key line of = ap (λ (n : ℕ). n == 68) of.new

pub ruleset kept_line = (link_kind, link_good, link_stays)
