-- The least of the members of a list that pass a test. There is a least member if any member passes
-- the test.
use Rattle.cif_laws.proofs.Common.{◌≡◌, List, [], ◌∷◌, refl, sym, ◌∙◌, subst, inl, inr, ◌⊎◌, Some, None, Bool, true, false, Contains, rules, find, ◌&&◌, not}
use Rattle.cif_laws.proofs.Common.{list_all, Ordering, IsTotalOrder, IsAtMost, IsBelow}
use Rattle.std.specs.Ordering.{is_gt}
use Rattle.cif_laws.proofs.lists.Membership.{Contains-cons, cons-Contains, cons-Contains-first, nil-Contains}
use Rattle.cif_laws.proofs.lists.BoolsAndOptions.{both}
use Rattle.cif_laws.proofs.orders.AtMost.{at_most_itself, at_most_or}
use Rattle.cif_laws.proofs.lists.FilteredMembers.{find_some, find_none, all_of, all_by}

module _ {A : Type 0} {cmp : A → A → Ordering} (total : IsTotalOrder cmp) (test : A → Bool) where
  -- whether a value is the least: it passes the test, and no member that passes the test is below
  -- it
  abbrev pub is_least : List A → A → Bool
  is_least xs x = test x && list_all (λ other. not (test other && is_gt (cmp x other))) xs

  -- `x` is the least of the members that pass the test
  pub record IsLeast (xs : List A) (x : A) : Type 0 where
    pub among : Contains xs x
    pub passes : test x ≡ true
    pub first : (z : A) → Contains xs z → test z ≡ true → IsAtMost cmp x z

  not_behind : (x z : A) → not (test z && is_gt (cmp x z)) ≡ true → test z ≡ true → IsAtMost cmp x z
  not_behind = search rules

  behind_none : (x z : A) → (test z ≡ true → IsAtMost cmp x z) → not (test z && is_gt (cmp x z)) ≡ true
  behind_none = search rules

  -- no member passes the test, or there is a least member among those that pass
  least_in : (xs : List A) → ((z : A) → Contains xs z → test z ≡ false) ⊎ ((x : A) × IsLeast xs x)
  least_in [] = inl (λ z among. absurd (nil-Contains _ among))
  least_in (x ∷ xs) = by (test x) refl (least_in xs)
    where
      alone : test x ≡ true → ((z : A) → Contains xs z → test z ≡ false) → IsLeast (x ∷ xs) x
      alone h none = search (rules, cons-Contains-first, at_most_itself)

      better : test x ≡ true → (y : A) → IsLeast xs y → IsAtMost cmp x y ⊎ IsBelow cmp y x → (z : A) × IsLeast (x ∷ xs) z
      better h y best (inl low) = search (rules, cons-Contains-first)
      better h y best (inr below) = search (rules, cons-Contains, best.among, best.passes)

      by : (b : Bool) → test x ≡ b → ((z : A) → Contains xs z → test z ≡ false) ⊎ ((z : A) × IsLeast xs z) → ((z : A) → Contains (x ∷ xs) z → test z ≡ false)
          ⊎ ((z : A) × IsLeast (x ∷ xs) z)
      by true h (inl none) = inr (x, alone h none)
      by true h (inr (y, best)) = inr (better h y best (at_most_or total _ y))
      by false h (inl none) = inl (λ z among. elim (Contains-cons _ xs _ among) [ inl e ↦ subst (λ v. test v ≡ false) e h | inr inside ↦ none z inside ])
      by false h (inr (y, best)) = search (rules, cons-Contains, best.among, best.passes)

  -- if the search for the least member finds a member, it is the least of the members that pass the
  -- test
  pub found_least : (xs : List A) (x : A) → find (is_least xs) xs ≡ Some x → IsLeast xs x
  found_least xs x found =
      let told = find_some _ _ _ found in
      let parts = both _ _ told.1 in
      record {
        among = told.0;
        passes = parts.0;
        first = λ z among passes. not_behind _ _ (all_of _ _ _ parts.1 among) passes;
      }

  -- if the search for the least member returns `None`, no member passes the test
  pub none_passes : (xs : List A) → find (is_least xs) xs ≡ None → (z : A) → Contains xs z → test z ≡ false
  none_passes xs none = elim (least_in _) [
    | inl fails ↦ fails
    | inr (x, best) ↦
        let holds : is_least xs x ≡ true = (λ i. best.passes i && all_by _ _ (λ z among. behind_none _ _ (best.first z among)) i) in
        let bad : true ≡ false = sym holds ∙ find_none _ _ _ none best.among in
        absurd (cc)
  ]
