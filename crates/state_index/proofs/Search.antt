-- Lemmas on what a binary search in an ascending list finds.
use Rattle.cif_laws.proofs.Common.{◌≡◌, ℕ, zero, suc, ◌<◌, ◌≤◌, List, [], ◌∷◌, map, refl, Bool, true, false, rules, length, get_or, ap, sym, ◌∙◌, subst, inl}
use Rattle.cif_laws.proofs.Common.{inr, ◌⊎◌, Contains, Ok, Err, arith, cases_lt, Result, ◌↔◌, IsTrue, is_ok, AllPairs, IsNonDecreasingBy, IsPartitionPoint}
use Rattle.cif_laws.proofs.Common.{Ordering, Less, Equal, Greater, ordering_index, IsTotalOrder, tied_itself, IsBelow, IsStrictlyAscending}
use Rattle.std.specs.List.Sorted.{IsSearchInRange, IsBinarySearchResult}
use Rattle.cif_laws.proofs.lists.Membership.{cons-Contains, cons-Contains-first, Contains-map, map-Contains}
use Rattle.cif_laws.proofs.orders.Ascending.{later_of}
use Rattle.cif_laws.proofs.lists.Later.{pairs_from_later}
use Rattle.docker_join.proofs.MeantOrder.{meant_ascending}

-- a list has an element at each index below its length
member_at : {A : Type 0} (xs : List A) (at : ℕ) → at < length xs → (x : A) × Contains xs x × (get_or xs at x ≡ x)
member_at {A} [] at within = absurd (let none : at < length {A = A} [] = within in omega arith)
member_at (x ∷ xs) zero within = (x, cons-Contains-first x xs, refl)
member_at (x ∷ xs) (suc at) within = let m = member_at xs at (omega arith) in (m.0, cons-Contains x xs m.0 m.1, m.2)

-- the lemmas for a list whose elements ascend by the values of `f`
module _ {A B : Type 0} (f : A → B) {cmp : B → B → Ordering} (total : IsTotalOrder cmp) (exact : (x y : B) → cmp x y ≡ Equal → x ≡ y)
    (xs : List A) (up : IsStrictlyAscending cmp (map f xs)) (z : B) where
  abbrev to : A → Ordering
  to x = cmp (f x) z

  rises : (x y : A) → cmp (f x) (f y) ≡ Less → ordering_index (to x) ≤ ordering_index (to y)
  rises = search rules

  below_at : AllPairs (IsBelow (λ a b. cmp (f a) (f b))) xs
  below_at = pairs_from_later (IsBelow (λ a b. cmp (f a) (f b))) xs (later_of (λ a b. cmp (f a) (f b)) xs (meant_ascending f cmp xs up))

  rising : IsNonDecreasingBy (λ x. ordering_index (to x)) xs
  rising = search (rules, cases_lt, rises, below_at)

  -- If all elements before an index are below a value, and all others are above it, the list doesn't have the value.
  absent : (at : ℕ) → IsPartitionPoint (λ x. to x ≡ Less) (λ x. to x ≡ Greater) xs at → ¬ Contains (map f xs) z
  absent at parts among = let found = Contains-map f xs z among in here found.0 found.1.0 found.1.1 found.1.2 found.2 (cases_lt found.1.0 at)
    where
      tied : (x : A) → f x ≡ z → to x ≡ Equal
      tied x same = ap (cmp (f x)) (sym same) ∙ tied_itself total (f x)

      here : (x : A) (i : ℕ) → i < length xs → get_or xs i x ≡ x → f x ≡ z → (i < at) ⊎ (at ≤ i) → ⊥
      here x i within is same (inl before) = let below = parts.0 i x (omega arith) before in let at_x = ap to is in let equal = tied x same in cc
      here x i within is same (inr after) = let above = parts.1 i x after within in let at_x = ap to is in let equal = tied x same in cc

  -- the search finds an element with the value if and only if the list has such an element
  pub search_tells : (found : Result ℕ ℕ) → IsSearchInRange found (length xs) → IsBinarySearchResult to xs found → (b : Bool) → b ≡ is_ok found
      → IsTrue b ↔ Contains (map f xs) z
  search_tells (Ok at) within is b same = (
    λ _.
        let m = member_at _ _ within in
        let tied : to m.0 ≡ Equal = ap to (sym m.2) ∙ is m.0 in
        subst (Contains (map f xs)) (exact (f m.0) z tied) (map-Contains _ _ _ m.1),
    λ _. same,
  )
  search_tells (Err at) within is b same =
      (λ true_is. absurd (let bad : false ≡ true = sym same ∙ true_is in cc), λ among. absurd (absent _ (is rising) among))
