-- A sorted list is strictly ascending if no two of its elements tie. Two elements tie if they
-- compare as equal.
use Rattle.cif_laws.proofs.Common.{◌≡◌, ℕ, suc, ◌+◌, ◌≤◌, List, [], ◌∷◌, get_or, refl, ap, sym, ◌∙◌, subst, true, false, cond, arith, rules, common_steps}
use Rattle.cif_laws.proofs.Common.{AllByRecursion, IsSorted, IsPermutation, Ordering, Less, Equal, Greater, is_eq, is_lt, ordering_reverse, IsTotalOrder}
use Rattle.cif_laws.proofs.Common.{tied_itself, IsBelow, IsStrictlyAscending}
use Rattle.std.specs.List.{sum_by}
use Rattle.std.proofs.lemmas.List.Sums.{sum_by-cons}
use Rattle.std.proofs.lemmas.List.Sorted.{sum_by-IsPermutation}
use Rattle.cif_laws.proofs.lists.Membership.{below_by_recursion, each_member}
use Rattle.cif_laws.proofs.lists.Later.{AllLater}

-- no element ties with a later element
abbrev pub AreApart : {A : Type 0} → (A → A → Ordering) → List A → Type 0
AreApart cmp xs = AllLater (λ a b. ¬ (cmp a b ≡ Equal)) xs

module _ {A : Type 0} {cmp : A → A → Ordering} (total : IsTotalOrder cmp) where
  -- 1 if the two values tie, and otherwise 0
  tie : A → A → ℕ
  tie x y = cond (is_eq (cmp x y)) 1 0

  -- the number of elements that tie with `x`
  ties : A → List A → ℕ
  ties x xs = sum_by (tie x) xs

  tie_equal : (x y : A) → cmp x y ≡ Equal → tie x y ≡ 1
  unfolding tie
  tie_equal x y e = λ i. cond (is_eq (e i)) 1 0

  tie_apart : (x y : A) → ¬ (cmp x y ≡ Equal) → tie x y ≡ 0
  unfolding tie
  tie_apart = search rules

  ties_nil : (x : A) → ties x [] ≡ 0
  unfolding ties
  ties_nil x = refl

  ties_cons : (x y : A) (ys : List A) → ties x (y ∷ ys) ≡ tie x y + ties x ys
  unfolding ties
  ties_cons x y ys = sum_by-cons (tie x) y ys

  no_ties : (x : A) (xs : List A) → AllByRecursion (λ y. ¬ (cmp x y ≡ Equal)) xs → ties x xs ≡ 0
  no_ties x [] all = ties_nil x
  no_ties x (y ∷ ys) all = let first = tie_apart x y all.0 in let rest = no_ties x ys all.1 in let whole = ties_cons x y ys in omega arith

  -- if no two elements tie, each value ties with at most one element
  one_tie : (x : A) (xs : List A) → AreApart cmp xs → ties x xs ≤ 1
  one_tie x [] apart = let none = ties_nil x in omega arith
  one_tie x (y ∷ ys) apart =
      grind (common_steps, arith, ties, tie_apart, ties_cons, tie_equal, no_ties, each_member, below_by_recursion, (one_tie x ys apart.1))

  rest_sorted : (x : A) (xs : List A) → IsSorted cmp (x ∷ xs) → IsSorted cmp xs
  rest_sorted x xs sorted k d low below =
      let at : suc k + 1 ≡ suc (k + 1) = omega arith in
      subst (λ n. is_lt (cmp (get_or (x ∷ xs) n d) (get_or xs k d)) ≡ false) at (sorted (suc k) d (omega arith) (omega arith))

  -- a sorted list is strictly ascending if each value ties with at most one element
  strictly : (xs : List A) → IsSorted cmp xs → ((x : A) → ties x xs ≤ 1) → IsStrictlyAscending cmp xs
  strictly [] sorted one = tt
  strictly (x ∷ []) sorted one = (tt, tt)
  strictly (x ∷ y ∷ ys) sorted one =
      by (strictly (y ∷ ys) (rest_sorted x (y ∷ ys) sorted) (λ z. let whole = ties_cons z x (y ∷ ys) in let bound = one z in omega arith)) (cmp x y) refl
    where
      by : IsStrictlyAscending cmp (y ∷ ys) → (o : Ordering) → cmp x y ≡ o → IsStrictlyAscending cmp (x ∷ y ∷ ys)
      by rest Less e = ((e, each_member (IsBelow cmp x) ys (λ z among. total.trans x y z e (below_by_recursion (IsBelow cmp y) ys z rest.0 among))), rest)
      by rest Equal e =
          let self = tie_equal x x (tied_itself total x) in
          let other = tie_equal x y e in
          let first = ties_cons x x (y ∷ ys) in
          let second = ties_cons x y ys in
          let bound = one x in
          absurd (omega arith)
      by rest Greater e =
          let back : cmp y x ≡ Less = total.antisymm y x ∙ ap ordering_reverse e in
          let bad : true ≡ false = sym (ap is_lt back) ∙ sorted 0 x (omega arith) (omega arith) in
          cc

  -- if no two elements of a list tie, the sorted list is strictly ascending
  pub sort_ascends : (xs ys : List A) → AreApart cmp xs → IsPermutation xs ys → IsSorted cmp ys → IsStrictlyAscending cmp ys
  unfolding ties
  sort_ascends xs ys apart same sorted =
      strictly ys sorted (λ x. let sums = sum_by-IsPermutation (tie x) xs ys same in let bound = one_tie x xs apart in subst (λ n. n ≤ 1) (sym sums) bound)
