-- The result of a binary search in sorted names, which may have duplicates.
use Rattle.cif_laws.proofs.Common.{◌≡◌, ℕ, List, Bool, true, false, length, get_or, ap, sym, ◌∙◌, inl, inr, Contains, Ok, Err, arith, cases_lt}
use Rattle.cif_laws.proofs.Common.{searchable_from_sorted, exact_bytes, tied_itself, nat_list_cmp_total, IsSorted, IsPartitionPoint, Result, ◌↔◌, is_ok, Less}
use Rattle.cif_laws.proofs.Common.{Equal, Greater, bytes_cmp}
use Rattle.std.specs.List.Sorted.{IsSearchInRange, IsBinarySearchResult}

-- if each name is either less than or greater than a UID, the UID isn't among the names
absent : (names : List (List ℕ)) (uid : List ℕ) (at : ℕ)
    → IsPartitionPoint (λ name. bytes_cmp name uid ≡ Less) (λ name. bytes_cmp name uid ≡ Greater) names at → ¬ Contains names uid
absent names uid at parts among =
    let tied : bytes_cmp (get_or names among.0 uid) uid ≡ Equal =
    ap (λ (name : List ℕ). bytes_cmp name uid) among.2 ∙ tied_itself nat_list_cmp_total uid in
    elim (cases_lt among.0 at) [
      | inl before ↦ let within = among.1 in let below = parts.0 among.0 uid (omega arith) before in cc
      | inr after ↦ let above = parts.1 among.0 uid after among.1 in cc
    ]

-- the search finds a UID if and only if the UID is among the names
pub found_iff : (names : List (List ℕ)) (uid : List ℕ) → IsSorted bytes_cmp names → (found : Result ℕ ℕ) → IsSearchInRange found (length names)
    → IsBinarySearchResult (λ name. bytes_cmp name uid) names found → (b : Bool) → b ≡ is_ok found → (b ≡ true) ↔ Contains names uid
found_iff names uid sorted (Ok at) within is b same = (λ _. (at, within, exact_bytes (get_or names at uid) uid (is uid)), λ _. same)
found_iff names uid sorted (Err at) within is b same = (
  λ told. absurd (let bad : false ≡ true = sym same ∙ told in cc),
  λ among. absurd (absent names uid at (is (searchable_from_sorted nat_list_cmp_total (λ (name : List ℕ). name) names uid sorted)) among),
)
