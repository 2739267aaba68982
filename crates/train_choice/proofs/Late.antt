-- A train passes midnight before some event if and only if some time in its schedule is below the
-- preceding time.
use Rattle.cif_laws.proofs.Common.{◌≡◌, ℕ, ◌+◌, true, cond, List, [], ◌∷◌, ◌++◌, refl, sym, ◌∙◌, subst, Some, None, All, arith, rules, Option, nat_lt, ltb-true}
use Rattle.cif_laws.proofs.Common.{All-from_recursion, recursion_from_All, HasGoodFields, Occasion, times_of}
use Rattle.docker_laws.specs.EventWalk.{fall_at}
use Rattle.train_choice.specs.Occurrences.{Occurrence, Progress, before_all, occurrences_at, occurrences_from, past_time, past_times, turned}
use Rattle.train_choice.specs.Midnights.{some_late, ascends, falls_after, falls_along}

abbrev Times : Type 0
Times = List (Occasion × ℕ)

-- the last time that the walk has passed, or 0 before the first time
abbrev last_or_midnight : Option ℕ → ℕ
last_or_midnight None = 0
last_or_midnight (Some last) = last

fall_is : (last : Option ℕ) (time : ℕ) → fall_at last time ≡ cond (nat_lt time (last_or_midnight last)) 1 0
fall_is = search (rules, ltb-true)

sum : (a b c : ℕ) → a ≡ 0 → b ≡ c → a + b ≡ c
sum a b c none same = omega arith

-- says that the times of a line determine whether midnight is passed. `Some` means that the times
-- ascend: no midnight is passed, and the time in `Some` is the last time of the line. `None` means
-- that midnight is passed before some event
abbrev Told : Progress → List ℕ → Times → Option ℕ → Type 0
Told p line times None = (rest : List Occurrence) → some_late (occurrences_at p line times ++ rest) ≡ true
Told p line times (Some last) =
    ((past_times p times).falls ≡ 0) × (last_or_midnight (past_times p times).last ≡ last)
    × ((rest : List Occurrence) → some_late (occurrences_at p line times ++ rest) ≡ some_late rest)

told : (p : Progress) (line : List ℕ) (times : Times) → p.falls ≡ 0 → Told p line times (ascends (last_or_midnight p.last) times)
told p line [] zero = (zero, refl, λ rest. refl)
told p line (time ∷ times) zero = grind (arith, sum, fall_is, (told (past_time p time) line times))

along : (p : Progress) (lines : List (List ℕ)) → p.falls ≡ 0 → falls_along (last_or_midnight p.last) lines ≡ some_late (occurrences_from p lines)
along p [] zero = refl
along p (line ∷ lines) zero =
    let next : Progress = past_times (turned p line) (times_of line) in
    (elim (ascends (last_or_midnight p.last) (times_of line)) as (λ found. Told (turned p line) line (times_of line) found
    → falls_after found (λ time. falls_along time lines) ≡ some_late (occurrences_from p (line ∷ lines))) [
      | None ↦ λ late. sym (late (occurrences_from next lines))
      | Some last ↦ λ found. (λ i. falls_along (sym found.1 i) lines) ∙ along next lines found.0 ∙ sym (found.2 (occurrences_from next lines))
    ]) (told (turned p line) line (times_of line) zero)

-- the train passes midnight before some event if and only if some time in the lines is below the
-- preceding time
pub late_by_times : (basic : List ℕ) (lines : List (List ℕ)) → falls_along 0 lines ≡ some_late (occurrences_from (before_all basic) lines)
late_by_times basic lines = along (before_all basic) lines refl

-- if all lines have good fields, the first line has good fields
pub first_good : (lines rest : List (List ℕ)) (line : List ℕ) → All HasGoodFields lines → lines ≡ line ∷ rest → HasGoodFields line
first_good lines rest line good is = (recursion_from_All HasGoodFields (line ∷ rest) (subst (All HasGoodFields) is good)).0

-- if all lines have good fields, the lines after the first have good fields
pub rest_good : (lines rest : List (List ℕ)) (line : List ℕ) → All HasGoodFields lines → lines ≡ line ∷ rest → All HasGoodFields rest
rest_good lines rest line good is = All-from_recursion HasGoodFields rest (recursion_from_All HasGoodFields (line ∷ rest) (subst (All HasGoodFields) is good)).1

-- if the times of the first line ascend, the train passes midnight in the lines if and only if it
-- passes midnight in the lines after the first
pub goes_on : (last time : ℕ) (line : List ℕ) (rest lines : List (List ℕ)) → lines ≡ line ∷ rest → ascends last (times_of line) ≡ Some time
    → falls_along time rest ≡ falls_along last lines
goes_on = search rules
