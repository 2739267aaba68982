-- The changes of a file within the limit: each change is well formed, and a body that a change puts
-- belongs to the key of the change.
use Rattle.cif_laws.proofs.Common.{◌≡◌, ℕ, ◌+◌, ◌-◌, ◌^◌, ◌<◌, ◌≤◌, List, [], ◌∷◌, ◌++◌, length, Contains, subst, ap, arith, length-append, rules}
use Rattle.cif_laws.proofs.Common.{AllByRecursion, flat_map, recursion_from_All, IsFile, IsUnit, IsSchedule, most_records, Key, tiploc_key, association_key}
use Rattle.cif_laws.proofs.Common.{schedule_key, put, Body, schedule_body, Change, changes_of_record, changes_from, changes, op_of, IsBodyOf, IsOpOf}
use Rattle.cif_laws.proofs.lists.Membership.{below_by_recursion}
use Rattle.cif_laws.proofs.lists.AllOf.{all_append, all_weaker}
use Rattle.cif_laws.proofs.files.GoodChanges.{IsGoodChange, units_changes}

-- the change has the number of one of `count` records, the first of which has the number `first`
abbrev IsNumbered : ℕ → ℕ → Change → Type 0
IsNumbered first count change = (first ≤ change.number) × (change.number < first + count)

numbers_within : (n : ℕ) (lines : List (List ℕ)) → AllByRecursion (IsNumbered n (length lines)) (changes_from n lines)
numbers_within n [] = tt
numbers_within n (line ∷ lines) =
    all_append (IsNumbered n (length (line ∷ lines))) (changes_of_record n line lines) (changes_from (n + 1) lines)
    (search (rules, all_weaker))
    (all_weaker (IsNumbered (n + 1) (length lines)) (IsNumbered n (length (line ∷ lines))) (λ c inside. (omega arith, omega arith)) (changes_from (n + 1) lines)
    (numbers_within (n + 1) lines))

-- the change is well formed, and has the number of a record after the header
pub record IsFileChange (change : Change) : Type 0 where
  pub good : IsGoodChange change
  pub low : 2 ≤ change.number
  pub high : change.number < 2 ^ 32 - 1

-- each change of a file within the limit is well formed
pub file_change : (file : List (List ℕ)) → IsFile file → length file ≤ most_records → (change : Change) → Contains (changes file) change → IsFileChange change
file_change file is few change among =
    let size = ap length is.whole in
    let sum = length-append (flat_map (λ unit. unit) is.units) (is.last ∷ []) in
    let rest = flat_map (λ unit. unit) is.units ++ is.last ∷ [] in
    let numbered = below_by_recursion (IsNumbered 2 (length rest)) (changes_from 2 rest) change (numbers_within 2 rest)
    (behind rest (subst (λ f. Contains (changes f) change) is.whole among)) in
    record {
      good =
          below_by_recursion IsGoodChange (changes_from 2 rest) change (all_good (omega arith) 2)
          (behind rest (subst (λ f. Contains (changes f) change) is.whole among));
      low = numbered.0;
      high = (let under = numbered.1 in omega arith);
    }
  where
    all_good : length (flat_map (λ unit. unit) is.units) < 2 ^ 32 - 1 → (n : ℕ)
        → AllByRecursion IsGoodChange (changes_from n (flat_map (λ unit. unit) is.units ++ is.last ∷ []))
    all_good under = units_changes is.units is.last (recursion_from_All IsUnit is.units is.each) is.trailer_kind under

    behind : (rest : List (List ℕ)) → Contains (changes (is.first ∷ rest)) change → Contains (changes_from 2 rest) change
    behind rest inside = search (rules, is.first, is.header_kind)

-- a body that a change puts belongs to the key of the change
pub body_of_file : (file : List (List ℕ)) → IsFile file → length file ≤ most_records → (change : Change) → Contains (changes file) change → (body : Body)
    → change.act ≡ put body → IsBodyOf change.key body
body_of_file file is few change among body puts = subst (λ act. IsOpOf change.key (op_of act)) puts (file_change file is few change among).good.1

-- the records of a well-formed schedule body are a schedule
pub kept_schedule : (key : Key) (lines : List (List ℕ)) → IsBodyOf key (schedule_body lines) → IsSchedule lines
kept_schedule (tiploc_key code) lines none = absurd none
kept_schedule (association_key key) lines none = absurd none
kept_schedule (schedule_key key) lines is = is.schedule
