-- Lemmas on the times of a schedule, on whether it passes midnight, and on the schedules that are
-- put.
use Rattle.cif_laws.proofs.Common.{◌≡◌, ℕ, suc, ◌++◌, List, [], ◌∷◌, refl, ap, sym, ◌∙◌, subst, rules, common_steps, Bool, true, false, Some, None, All, length}
use Rattle.cif_laws.proofs.Common.{arith, Option, is_none, is_some, nat_lt, not, ◌==◌, ◌&&◌, lt-ltb, ltb-true, map-append, recursion_from_All, IsRecord}
use Rattle.cif_laws.proofs.Common.{HasGoodFields, is_deletion, times_along, fall_count, midnights, calls_at, IsSchedule, first_record, Key, schedule_key}
use Rattle.cif_laws.proofs.Common.{schedule_body, put_with, IsOpOf}
use Rattle.cif_laws.proofs.records.Columns.{fields_good, is_new}
use Rattle.cif_laws.proofs.lists.AllOf.{all_append}
use Rattle.cif_laws.proofs.files.GoodChanges.{new_is_schedule}
use Rattle.docker_laws.specs.NearDay.{may_reach}
use Rattle.docker_laws.specs.Thinning.{thin_lines, excerpt_lines}
use Rattle.docker_laws.proofs.dockers.KeptSchedules as kept
use Rattle.cif_change.specs.JourneyRead.{time_list}
use Rattle.cif_file.specs.KeeperRead.{with_new_first}
use Rattle.docker_excerpt.specs.Midnights.{past, past_all, past_line, IsPutSchedule}

-- ---- whether some time is below the time before it

past_none : (times : List ℕ) → past_all None times ≡ None
past_none [] = refl
past_none (time ∷ times) = past_none times

past_append : (last : Option ℕ) (xs ys : List ℕ) → past_all last (xs ++ ys) ≡ past_all (past_all last xs) ys
past_append last [] ys = refl
past_append last (x ∷ xs) ys = past_append (past last (Some x)) xs ys

-- a list of times that follow the time `last` has a fall if and only if `past_all` returns `None`
falls_told : (last : ℕ) (times : List ℕ) → is_none (past_all (Some last) times) ≡ nat_lt 0 (fall_count (last ∷ times))
falls_told last [] = refl
falls_told last (time ∷ times) = grind (common_steps, arith, past_none, lt-ltb, (falls_told time times))

-- the times of a schedule show whether it passes midnight
pub midnights_told : (lines : List (List ℕ)) (last : Option ℕ) → last ≡ past_all (Some 0) (times_along lines) → is_none last ≡ nat_lt 0 (midnights lines)
midnights_told = search (rules, falls_told, ltb-true)

-- the times of more lines follow the times of the first line
pub past_more : (last : Option ℕ) (line : List ℕ) (lines : List (List ℕ)) → past_all last (times_along (line ∷ lines))
    ≡ past_all (past_line last line) (times_along lines)
past_more = search (rules, map-append, past_append)

-- the first of these lines has good fields
first_good : (behind rest : List (List ℕ)) (line : List ℕ) → behind ≡ line ∷ rest → All HasGoodFields behind → HasGoodFields line
first_good behind rest line is good = subst (All HasGoodFields) is good 0 line (omega arith)

-- the lines after the first have good fields
pub rest_good : (behind rest : List (List ℕ)) (line : List ℕ) → behind ≡ line ∷ rest → All HasGoodFields behind → All HasGoodFields rest
rest_good behind rest line is good = λ k d below. subst (All HasGoodFields) is good (suc k) d (omega arith)

-- after one more line, the remaining lines lead to the same last time
pub past_first : (last next whole : Option ℕ) (behind rest : List (List ℕ)) (line : List ℕ) → behind ≡ line ∷ rest → All HasGoodFields behind
    → (HasGoodFields line → next ≡ past_line last line) → past_all last (times_along behind) ≡ whole → past_all next (times_along rest) ≡ whole
past_first last next whole behind rest line is good tells same =
    ap (λ (l : Option ℕ). past_all l (times_along rest)) (tells (first_good behind rest line is good))
    ∙ sym (past_more last line rest)
    ∙ ap (λ (ls : List (List ℕ)). past_all last (times_along ls)) (sym is)
    ∙ same

-- after the last line, the last time doesn't change any more
pub past_last : (last : Option ℕ) (behind : List (List ℕ)) → length behind ≡ 0 → last ≡ past_all last (times_along behind)
past_last = grind (common_steps, arith)

-- a test that is false if and only if there is a last time is true if there is none
pub none_by : (last : Option ℕ) (test : Bool) → is_some last ≡ not test → test ≡ is_none last
none_by = search rules

-- ---- the times of one line

-- an intermediate location has up to three times
pub three_times : (last first second third : Option ℕ) → past (past (past last first) second) third
    ≡ past_all last (time_list first ++ time_list second ++ time_list third)
three_times = search rules

-- ---- the lines of a schedule that is put have good fields

-- each line of a schedule that is put has good fields
pub put_good : (lines : List (List ℕ)) → IsPutSchedule lines → All HasGoodFields lines
put_good = search (rules, all_append, fields_good, recursion_from_All)

-- the lines of a well-formed op are a schedule that is put
pub put_of_op : (key : Key) (lines : List (List ℕ)) → IsOpOf key (put_with (schedule_body lines)) → IsPutSchedule lines
put_of_op (schedule_key key) lines of = record { schedule = of.schedule; stays = kept.first_stays key lines of }
put_of_op _ lines of = absurd of

-- a schedule that isn't a deletion is put, with the transaction N
pub put_of_new : (lines : List (List ℕ)) → IsSchedule lines → is_deletion (first_record lines) ≡ false → IsPutSchedule (with_new_first lines)
put_of_new lines is stays = subst (λ (ls : List (List ℕ)). IsPutSchedule (with_new_first ls)) (sym is.whole) (record {
  schedule = new_is_schedule _ is (sym (ap (λ (ls : List (List ℕ)). is_deletion (first_record ls)) is.whole) ∙ stays);
  stays = λ i.
      is_new _ (recursion_from_All IsRecord (is.basic ∷ is.extra ++ is.journey) (subst (All IsRecord) is.whole is.records)).0 i == 68;
})

-- ---- whether an event of a schedule may be on the day

pub and_false : (a : Bool) → (a && false) ≡ false
and_false = search rules

-- if a schedule calls at the place, but no event of it may be on the day, the excerpt has its thin
-- records
pub shortened_lines : (place : List ℕ) (day : ℕ) (lines : List (List ℕ)) → calls_at place lines ≡ true → may_reach day lines ≡ false
    → thin_lines place (first_record lines) ≡ excerpt_lines place day lines
shortened_lines = search rules
