-- In an ascending list, whatever is above the last element is above all elements.
use Rattle.cif_laws.proofs.Common.{◌≡◌, ◌-◌, List, [], ◌∷◌, length, get_or, ap, sym, ◌∙◌, subst, inl, inr, arith, Bool, true, All, Some, None, rules, slice_get}
use Rattle.cif_laws.proofs.Common.{option_map, IsTrue, ◌↔◌, is_lt, on, Ordering, Less, IsTotalOrder, cases_lt, slice_get-get_or, IsBelow, IsStrictlyAscending}
use Rattle.cif_laws.proofs.lists.Later.{pairs_from_later}
use Rattle.cif_laws.proofs.orders.Ascending.{later_of}

-- if `is_lt` is true of an ordering, the ordering is `Less`
less_by_test : (o : Ordering) → is_lt o ≡ true → o ≡ Less
less_by_test = search rules

module _ {A K : Type 0} (key : A → K) (cmp : K → K → Ordering) (total : IsTotalOrder cmp) where
  -- whatever is above the last element is above all elements
  pub above_last : (xs : List A) (low k : K) (test : Bool) → IsStrictlyAscending (on key cmp) xs
      → Some low ≡ option_map key (slice_get xs (length xs - 1)) → test ≡ is_lt (cmp low k) → IsTrue test ↔ All (λ x. IsBelow cmp (key x) k) xs
  above_last [] low k test up is tested = cc
  above_last (x ∷ xs) low k test up is tested = (
    λ told j d within. elim (cases_lt j (length (x ∷ xs) - 1)) [
      | inl before ↦ total.trans _ _ k (pairs_from_later (λ a b. IsBelow cmp (key a) (key b)) (x ∷ xs) (later_of (on key cmp) (x ∷ xs) up)
          j (length (x ∷ xs) - 1) d before (omega arith)) (below told d)
      | inr after ↦ subst (λ n. IsBelow cmp (key (get_or (x ∷ xs) n d)) k) (omega arith) (below told d)
    ],
    λ all. tested ∙ ap (λ o. is_lt (cmp o k)) (low_is x) ∙ ap is_lt (all (length (x ∷ xs) - 1) x (omega arith)),
  )
    where
      low_is : (d : A) → low ≡ key (get_or (x ∷ xs) (length (x ∷ xs) - 1) d)
      low_is d = let there = slice_get-get_or (x ∷ xs) (length (x ∷ xs) - 1) d (omega arith) in cc

      below : IsTrue test → (d : A) → IsBelow cmp (key (get_or (x ∷ xs) (length (x ∷ xs) - 1) d)) k
      below told d = subst (λ o. IsBelow cmp o k) (low_is d) (less_by_test _ (sym tested ∙ told))

  -- in an empty list, anything is above all elements
  pub above_none : (xs : List A) (k : K) → None ≡ option_map key (slice_get xs (length xs - 1)) → IsTrue true ↔ All (λ x. IsBelow cmp (key x) k) xs
  above_none [] k none = search rules
  above_none (x ∷ xs) k none = let there = slice_get-get_or (x ∷ xs) (length (x ∷ xs) - 1) x (omega arith) in cc
