-- The lines up to and including the last line at a place. The search for this line begins at the
-- end.
use Rattle.cif_laws.proofs.Common.{◌≡◌, ◌≤◌, ◌<◌, ◌^◌, ◌+◌, ℕ, Bool, true, false, List, [], ◌∷◌, ◌++◌, length, All, arith, rules, common_steps, AllByRecursion}
use Rattle.cif_laws.proofs.Common.{All-from_recursion, recursion_from_All, HasGoodFields, ScheduleKey, IsScheduleOf}
use Rattle.train_choice.specs.UpTo.{names_place, before_named, up_to_last}
use Rattle.train_choice.proofs.KeptLines.{lines_good, lines_few}

-- if the lines up to the last line at a place include a line, they also include the line before
-- that line
kept : (named : Bool) (line last : List ℕ) (lines : List (List ℕ)) → before_named named line (lines ++ last ∷ []) ≡ (line ∷ lines) ++ last ∷ []
kept = grind (common_steps, arith)

-- if the last line is at the place, the lines up to the last line at the place are all lines
pub last_named : (place last : List ℕ) (lines : List (List ℕ)) → names_place place last ≡ true
    → up_to_last place (lines ++ last ∷ []) ≡ lines ++ last ∷ []
last_named place last [] named = λ i. before_named (named i) last []
last_named place last (line ∷ lines) named = grind (arith, kept, (last_named place last lines named))

-- if the last line isn't at the place, removing it leaves the lines up to the last line at the
-- place unchanged
pub last_elsewhere : (place last : List ℕ) (lines : List (List ℕ)) → names_place place last ≡ false
    → up_to_last place (lines ++ last ∷ []) ≡ up_to_last place lines
last_elsewhere place last [] elsewhere = λ i. before_named (elsewhere i) last []
last_elsewhere place last (line ∷ lines) elsewhere = grind (arith, (last_elsewhere place last lines elsewhere))

good_before : (P : List ℕ → Type 0) (named : Bool) (line : List ℕ) (lines : List (List ℕ)) → P line → AllByRecursion P lines
    → AllByRecursion P (before_named named line lines)
good_before = search rules

all_before : (P : List ℕ → Type 0) (place : List ℕ) (lines : List (List ℕ)) → AllByRecursion P lines → AllByRecursion P (up_to_last place lines)
all_before P place [] good = tt
all_before P place (line ∷ lines) good = grind (arith, good_before, (all_before P place lines good.1))

-- a property of all lines holds for the lines up to the last line at a place
pub all_up_to : (P : List ℕ → Type 0) (place : List ℕ) (lines : List (List ℕ)) → All P lines → All P (up_to_last place lines)
all_up_to P place lines good = All-from_recursion P (up_to_last place lines) (all_before _ _ _ (recursion_from_All P lines good))

few_before : (named : Bool) (line : List ℕ) (lines : List (List ℕ)) (n : ℕ) → length lines ≤ n → length (before_named named line lines) ≤ n + 1
few_before = search rules

-- the number of lines up to the last line at a place is at most the number of all lines
pub few_up_to : (place : List ℕ) (lines : List (List ℕ)) → length (up_to_last place lines) ≤ length lines
few_up_to place [] = omega arith
few_up_to place (line ∷ lines) = grind (arith, few_before, (few_up_to place lines))

-- the lines of a schedule up to its last line at a place have good fields
pub lines_to_good : (place : List ℕ) (key : ScheduleKey) (lines : List (List ℕ)) → IsScheduleOf key lines
    → All HasGoodFields (up_to_last place lines)
lines_to_good place key lines of = all_up_to HasGoodFields place lines (lines_good key lines of)

-- the number of a schedule's lines up to its last line at a place fits in 32 bits
pub lines_to_few : (place : List ℕ) (key : ScheduleKey) (lines : List (List ℕ)) → IsScheduleOf key lines
    → length (up_to_last place lines) < 2 ^ 32
lines_to_few = search (rules, lines_few, few_up_to)
