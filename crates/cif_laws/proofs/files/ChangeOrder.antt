-- If two changes of a file have the same key, the second belongs to a later record. Two changes of
-- one record have different keys.
use Rattle.cif_laws.proofs.Common.{◌≡◌, ℕ, ◌+◌, ◌<◌, ◌≤◌, List, [], ◌∷◌, map, inl, inr, ◌⊎◌, refl, arith, rules, Option, AllByRecursion, AllPairs, Kind}
use Rattle.cif_laws.proofs.Common.{kind_of, Key, Act, Change, acts_by_kind, changes_of_record, changes_from, changes}
use Rattle.cif_laws.proofs.lists.Later.{AllLater, later_append_all, later_weaker_always, pairs_from_later}
use Rattle.cif_laws.proofs.lists.AllOf.{all_append, all_weaker}

-- the second change belongs to a later record than the first change, or the two changes have
-- different keys
abbrev pub Apart : Change → Change → Type 0
Apart first second = (first.number < second.number) ⊎ ¬ (first.key ≡ second.key)

abbrev changes_of_acts : ℕ → List (Key × Act) → List Change
changes_of_acts number acts = map (λ act. record { number = number; key = act.0; act = act.1 }) acts

number_in : (n : ℕ) (acts : List (Key × Act)) → AllByRecursion (λ (c : Change). c.number ≡ n) (changes_of_acts n acts)
number_in n [] = tt
number_in n (act ∷ acts) = (refl, number_in n acts)

number_from : (n : ℕ) (lines : List (List ℕ)) → AllByRecursion (λ (c : Change). n ≤ c.number) (changes_from n lines)
number_from n [] = tt
number_from n (line ∷ lines) =
    all_append (λ (c : Change). n ≤ c.number) (changes_of_record n line lines) (changes_from (n + 1) lines)
    (search (rules, all_weaker, number_in))
    (all_weaker (λ (c : Change). n + 1 ≤ c.number) (λ (c : Change). n ≤ c.number) (λ c more. omega arith) (changes_from (n + 1) lines)
    (number_from (n + 1) lines))

acts_apart : (n : ℕ) (kind : Option Kind) (line : List ℕ) (following : List (List ℕ)) → AllLater Apart (changes_of_acts n (acts_by_kind kind line following))
acts_apart = search (rules, later_weaker_always)

-- for any two changes of these records, the second change belongs to a later record than the first,
-- or the two changes have different keys
pub changes_apart : (n : ℕ) (lines : List (List ℕ)) → AllLater Apart (changes_from n lines)
changes_apart n [] = tt
changes_apart n (line ∷ lines) =
    later_append_all Apart (changes_of_record n line lines) (changes_from (n + 1) lines)
    (acts_apart n (kind_of line) line lines) (changes_apart (n + 1) lines)
    (search (rules, all_weaker, number_from, number_in))

-- two changes of a file that belong to the same record have different keys
pub file_keys_differ : (file : List (List ℕ)) → AllPairs (λ (first second : Change). first.number ≡ second.number → ¬ (first.key ≡ second.key)) (changes file)
file_keys_differ file = pairs_from_later _ (changes file) (later_weaker_always Apart _ by (changes file) (changes_apart 1 file))
  where
    by : (first second : Change) → Apart first second → first.number ≡ second.number → ¬ (first.key ≡ second.key)
    by first second (inl before) same = absurd (omega arith)
    by first second (inr differ) same = differ
