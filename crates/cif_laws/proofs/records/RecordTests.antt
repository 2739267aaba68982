-- Tests of a record, and the number of times that a schedule passes midnight, counted record by
-- record.
use Rattle.cif_laws.proofs.Common.{ℕ, List, ◌≡◌, refl, true, ◌+◌, ◌∷◌, length, ◌∙◌, cond, arith, Bool, false, rules, [], ◌≤◌, Some, None, sym, ap, eqb-true}
use Rattle.cif_laws.proofs.Common.{◌++◌, map, not, option_map, nat_lt, ◌↔◌, prefix_len, AllByRecursion, AllPass, flat_map, ltb-true, ltb-false, map-append}
use Rattle.cif_laws.proofs.Common.{flat_map-append, recursion_from_All, All-from_recursion, is_printable, leftmost_bad_byte, IsRecord, Kind, HasKind, kind_of}
use Rattle.cif_laws.proofs.Common.{is_present_time, is_scheduled_time, scheduled_time, HasGoodFields, fall_count, Occasion, times_of, times_along, midnights}
use Rattle.cif_laws.proofs.Common.{times_by_kind, timed}
use Rattle.cif_laws.specs.RecordTest.{is_record}
use Rattle.cif_laws.specs.TimesSoFar.{falls_after, last_of, later_or}
use Rattle.cif_laws.proofs.lists.AllOf.{all_append, all_map}
use Rattle.cif_laws.proofs.records.Columns.{good_fields}
use Rattle.cif_laws.proofs.lists.BoolsAndOptions.{both, test_by_none, none_by_test, and_true, either}

-- ---- bytes are a record if and only if they pass the test `is_record`

abbrev printable_front : List ℕ → ℕ
printable_front bytes = prefix_len (λ b. not (not (is_printable b))) bytes

front_whole : (bytes : List ℕ) → AllByRecursion (λ b. is_printable b ≡ true) bytes → printable_front bytes ≡ length bytes
front_whole [] all = refl
front_whole (b ∷ bytes) all = (λ i. cond (not (not (all.0 i))) (1 + printable_front bytes) 0) ∙ (let e = front_whole bytes all.1 in omega arith)

whole_front : (bytes : List ℕ) → length bytes ≤ printable_front bytes → AllByRecursion (λ b. is_printable b ≡ true) bytes
whole_front [] all = tt
whole_front (b ∷ bytes) all = grind (arith, (whole_front bytes))

bad_byte_by : (bytes : List ℕ) (t : Bool) → nat_lt (printable_front bytes) (length bytes) ≡ t → leftmost_bad_byte bytes ≡ option_map (λ (i : ℕ). i + 1)
    (cond t (Some (printable_front bytes)) None)
bad_byte_by bytes t h = λ i. option_map (λ (k : ℕ). k + 1) (cond (h i) (Some (printable_front bytes)) None)

-- if all bytes are printable, none of them is bad
pub no_bad_byte : (bytes : List ℕ) → AllPass is_printable bytes → leftmost_bad_byte bytes ≡ None
no_bad_byte bytes all = by (nat_lt (printable_front bytes) (length bytes)) refl
  where
    by : (t : Bool) → nat_lt (printable_front bytes) (length bytes) ≡ t → leftmost_bad_byte bytes ≡ None
    by true h = search (rules, front_whole, recursion_from_All, ltb-true, printable_front)
    by false h = bad_byte_by bytes false h

-- if no byte is bad, all bytes are printable
pub printable_by_none : (bytes : List ℕ) → leftmost_bad_byte bytes ≡ None → AllPass is_printable bytes
printable_by_none bytes none = by (nat_lt (printable_front bytes) (length bytes)) refl
  where
    by : (t : Bool) → nat_lt (printable_front bytes) (length bytes) ≡ t → AllPass is_printable bytes
    by true h = let bad : Some (printable_front bytes + 1) ≡ None = sym (bad_byte_by bytes true h) ∙ none in cc
    by false h =
        let most = ltb-false (printable_front bytes) (length bytes) h in All-from_recursion (λ b. is_printable b ≡ true) bytes (whole_front bytes (omega arith))

-- bytes are a record if and only if they pass the test `is_record`
pub record_iff_test : (line : List ℕ) → IsRecord line ↔ (is_record line ≡ true)
record_iff_test = search (rules, and_true, test_by_none, no_bad_byte, both, eqb-true, printable_by_none, none_by_test)

-- ---- how often a schedule passes midnight can be computed record by record

-- the number of falls in a concatenation is the sum of two numbers. The first number counts the
-- falls in the first list. The second number counts the falls in the second list if it follows the
-- first list's last time. A fall is a time that is earlier than the time before it
pub fall_count-append : (times later : List ℕ) → fall_count (times ++ later) ≡ fall_count times + falls_after (last_of times) later
fall_count-append [] later = omega arith
fall_count-append (time ∷ []) later = omega arith
fall_count-append (time ∷ next ∷ times) later = let rest = fall_count-append (next ∷ times) later in omega arith

-- appending times to a list with at least one time never lowers the number of falls. A fall is a
-- time that is earlier than the time before it
pub fall_count_behind : (time : ℕ) (times later : List ℕ) → fall_count (time ∷ times) ≤ fall_count ((time ∷ times) ++ later)
fall_count_behind time [] later = omega arith
fall_count_behind time (next ∷ times) later = let rest = fall_count_behind next times later in omega arith

-- appending times never lowers the number of falls. A fall is a time that is earlier than the time
-- before it
pub fewer_falls : (times later : List ℕ) → fall_count times ≤ fall_count (times ++ later)
fewer_falls [] later = omega arith
fewer_falls (time ∷ times) later = fall_count_behind time times later

-- the last time of the concatenation of two lists is the last time of the second list. If the
-- second list is empty, it is the last time of the first list
pub last_of-append : (times later : List ℕ) → last_of (times ++ later) ≡ later_or (last_of later) (last_of times)
last_of-append [] later = search rules
last_of-append (time ∷ []) [] = refl
last_of-append (time ∷ []) (next ∷ later) = by next later
  where
    by : (first : ℕ) (rest : List ℕ) → last_of (first ∷ rest) ≡ later_or (last_of (first ∷ rest)) (Some time)
    by first [] = refl
    by first (second ∷ rest) = by second rest
last_of-append (time ∷ next ∷ times) later = last_of-append (next ∷ times) later

-- the last half minute of a day, 23:59½
abbrev pub last_time : ℕ
last_time = 2879

no_fall_behind : (time : ℕ) (times : List ℕ) → AllByRecursion (λ t. t ≤ last_time) (time ∷ times) → fall_count ((time ∷ times) ++ last_time ∷ []) ≡ fall_count
    (time ∷ times)
no_fall_behind time [] all = search (rules, ltb-true)
no_fall_behind time (next ∷ times) all = ap (λ n. cond (nat_lt next time) 1 0 + n) (no_fall_behind next times all.1)

-- appending the time 23:59½ leaves the number of falls unchanged. A fall is a time that is earlier
-- than the time before it, and no time of a day is later than 23:59½
pub no_fall_last : (times : List ℕ) → AllByRecursion (λ t. t ≤ last_time) times → fall_count (times ++ last_time ∷ []) ≡ fall_count times
no_fall_last [] all = refl
no_fall_last (time ∷ times) all = no_fall_behind time times all

-- the times of two concatenated lists of records are the times of the first list, followed by the
-- times of the second list
pub times_append : (lines more : List (List ℕ)) → times_along (lines ++ more) ≡ times_along lines ++ times_along more
times_append = search (rules, flat_map-append, map-append)

-- appending records never lowers the number of times that a schedule passes midnight
pub fewer_midnights : (lines more : List (List ℕ)) → midnights lines ≤ midnights (lines ++ more)
fewer_midnights = search (rules, times_append, fewer_falls)

-- when a record is appended, the schedule passes midnight as often as before, plus once for each
-- fall in the record's times. A fall is a time that is earlier than the time before it
pub midnights_step : (lines : List (List ℕ)) (line : List ℕ) → midnights (lines ++ line ∷ []) ≡ midnights lines + falls_after (last_of (times_along lines))
    (times_along (line ∷ []))
midnights_step lines line = ap fall_count (times_append lines (line ∷ [])) ∙ fall_count-append (times_along lines) (times_along (line ∷ []))

-- after a record is appended, the last time is the record's last time. If the record has no time,
-- the last time stays the same
pub last_time_step : (lines : List (List ℕ)) (line : List ℕ) → last_of (times_along (lines ++ line ∷ [])) ≡ later_or (last_of (times_along (line ∷ [])))
    (last_of (times_along lines))
last_time_step lines line = ap last_of (times_append lines (line ∷ [])) ∙ last_of-append (times_along lines) (times_along (line ∷ []))

-- a record has no times if its kind has none
pub no_times : (kind : Kind) (line : List ℕ) → HasKind kind line → times_by_kind (Some kind) line ≡ [] → times_of line ≡ []
no_times kind line is none = ap (λ k. times_by_kind k line) is ∙ none

-- putting a line without times before other lines leaves the times unchanged
pub no_times_before : (line : List ℕ) (lines : List (List ℕ)) → times_of line ≡ [] → times_along (line ∷ lines) ≡ times_along lines
no_times_before line lines none = ap (λ times. map (λ (time : Occasion × ℕ). time.1) (times ++ flat_map times_of lines)) none

-- the time is within a day: from 0 to 2879 half minutes
abbrev IsWithinDay : Occasion × ℕ → Type 0
IsWithinDay time = time.1 ≤ last_time

timed_within : (occasion : Occasion) (field : List ℕ) → is_scheduled_time field ≡ true → AllByRecursion IsWithinDay (timed occasion (scheduled_time field))
timed_within = search (rules, either)

present_scheduled : (field : List ℕ) → is_present_time field ≡ true → is_scheduled_time field ≡ true
present_scheduled = search rules

times_by_kind_within : (kind : Kind) (line : List ℕ) → HasKind kind line → HasGoodFields line → AllByRecursion IsWithinDay (times_by_kind (Some kind) line)
times_by_kind_within = search (rules, good_fields, timed_within, present_scheduled, all_append)

times_within : (line : List ℕ) → HasGoodFields line → AllByRecursion IsWithinDay (times_of line)
times_within line good = (elim (kind_of line) as (λ kind. kind_of line ≡ kind → AllByRecursion IsWithinDay (times_by_kind kind line)) [
  | None ↦ λ h. tt
  | Some kind ↦ λ h. times_by_kind_within kind line h good
]) refl

lines_within : (lines : List (List ℕ)) → AllByRecursion HasGoodFields lines → AllByRecursion IsWithinDay (flat_map times_of lines)
lines_within [] all = tt
lines_within (line ∷ lines) all = all_append IsWithinDay (times_of line) (flat_map times_of lines) (times_within line all.0) (lines_within lines all.1)

-- the times of records with good fields are within a day
pub along_within : (lines : List (List ℕ)) → AllByRecursion HasGoodFields lines → AllByRecursion (λ t. t ≤ last_time) (times_along lines)
along_within lines all = all_map (λ (time : Occasion × ℕ). time.1) (λ t. t ≤ last_time) (flat_map times_of lines) (lines_within lines all)
