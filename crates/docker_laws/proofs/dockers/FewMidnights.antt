-- If the bodies of a table are well formed, its schedules pass midnight at most twice. So each
-- event is at most two days after the start day of its train.
use Rattle.cif_laws.proofs.Common.{◌≡◌, ℕ, ◌≤◌, List, subst, Some, rules, eqb-true, take-append-drop, times_along, fall_count, midnights, schedule_key}
use Rattle.cif_laws.proofs.Common.{ScheduleKey, schedule_body, Table, HasGoodBodies, IsScheduleOf, falls_to}
use Rattle.cif_laws.proofs.records.RecordTests.{fewer_falls}
use Rattle.cif_laws.proofs.schedules.ScheduleStages.{midnights_of_journey}

-- every schedule of the table passes midnight at most twice
abbrev pub HasFewMidnights : Table → Type 0
HasFewMidnights live = (key : ScheduleKey) (lines : List (List ℕ)) → live (schedule_key key) ≡ Some (schedule_body lines) → midnights lines ≤ 2

-- ---- a well-formed schedule passes midnight at most twice

-- a well-formed schedule passes midnight at most twice
pub few_midnights : (key : ScheduleKey) (lines : List (List ℕ)) → IsScheduleOf key lines → midnights lines ≤ 2
few_midnights = search (rules, eqb-true, midnights_of_journey)

-- if all bodies of a table are well formed, its schedules pass midnight at most twice
pub bodies_few : (live : Table) → HasGoodBodies live → HasFewMidnights live
bodies_few live good key lines is = few_midnights key lines (good (schedule_key key) (schedule_body lines) is)

-- up to an event, a schedule passes midnight at most as often as in its whole journey
pub falls_below : (lines : List (List ℕ)) (number : ℕ) → falls_to lines number ≤ midnights lines
falls_below lines number = subst (λ times. falls_to lines number ≤ fall_count times) (take-append-drop number (times_along lines)) (fewer_falls _ _)
