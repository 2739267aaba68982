-- Two strictly ascending lists with the same members are equal.
use Rattle.cif_laws.proofs.Common.{◌≡◌, List, [], ◌∷◌, refl, sym, Contains, ◌⊎◌, ◌++◌, arith, rules, common_steps, ◌↔◌, AllByRecursion, Ordering, IsTotalOrder}
use Rattle.cif_laws.proofs.Common.{tied_itself, Contains-append_right, IsBelow, IsStrictlyAscending}
use Rattle.cif_laws.proofs.lists.AllOf.{all_append}
use Rattle.cif_laws.proofs.lists.Later.{AllLater}
use Rattle.cif_laws.proofs.lists.Membership.{below_by_recursion, nil-Contains, Contains-cons, cons-Contains-first, cons-Contains}

module _ {A : Type 0} {cmp : A → A → Ordering} (total : IsTotalOrder cmp) where
  -- no value is below itself
  pub irreflexive : (x : A) → ¬ IsBelow cmp x x
  irreflexive x below = let tied = tied_itself total x in cc

  -- no two values are each below the other
  pub not_both : (x y : A) → IsBelow cmp x y → ¬ IsBelow cmp y x
  not_both x y below above = irreflexive x (total.trans x y x below above)

  -- two ascending lists with the same members have the same first element
  same_heads : (x y : A) (xs ys : List A) → AllByRecursion (IsBelow cmp x) xs → AllByRecursion (IsBelow cmp y) ys
      → (y ≡ x) ⊎ Contains ys x → (x ≡ y) ⊎ Contains xs y → x ≡ y
  same_heads = grind (common_steps, arith, not_both, below_by_recursion)

  -- if two ascending lists with the same members have equal first elements, their tails have the
  -- same members
  in_tail : (x y z : A) (xs ys : List A) → x ≡ y → AllByRecursion (IsBelow cmp x) xs → Contains xs z → (y ≡ z) ⊎ Contains ys z → Contains ys z
  in_tail = grind (common_steps, arith, irreflexive, below_by_recursion)

  -- two ascending lists with the same members are equal
  pub same_list : (xs ys : List A) → IsStrictlyAscending cmp xs → IsStrictlyAscending cmp ys → ((z : A) → Contains xs z ↔ Contains ys z) → xs ≡ ys
  same_list [] [] up_x up_y same = refl
  same_list [] (y ∷ ys) up_x up_y same = absurd (nil-Contains y ((same y).1 (cons-Contains-first _ ys)))
  same_list (x ∷ xs) [] up_x up_y same = absurd (nil-Contains _ ((same x).0 (cons-Contains-first x _)))
  same_list (x ∷ xs) (y ∷ ys) up_x up_y same =
      let heads = same_heads x _ xs _ up_x.0 up_y.0 (Contains-cons y _ x ((same x).0 (cons-Contains-first _ xs)))
      (Contains-cons _ xs _ ((same y).1 (cons-Contains-first y _))) in
      let tails = same_list xs _ up_x.1 up_y.1 (λ z. (
        λ among. in_tail x _ z _ ys heads up_x.0 among (Contains-cons _ ys _ ((same z).0 (cons-Contains x _ z among))),
        λ among. in_tail _ x _ ys _ (sym heads) up_y.0 among (Contains-cons x _ z ((same z).1 (cons-Contains _ ys _ among))),
      )) in
      λ i. heads i ∷ tails i

-- in a strictly ascending list each element is below each later element
pub later_of : {A : Type 0} (cmp : A → A → Ordering) (xs : List A) → IsStrictlyAscending cmp xs → AllLater (IsBelow cmp) xs
later_of = search rules

-- a list in which each element is below each later element is strictly ascending
pub ascending_of : {A : Type 0} (cmp : A → A → Ordering) (xs : List A) → AllLater (IsBelow cmp) xs → IsStrictlyAscending cmp xs
ascending_of = search rules

-- a strictly ascending list is still strictly ascending after an element above all its elements is
-- appended
pub ascending_last : {A : Type 0} (cmp : A → A → Ordering) (xs : List A) (y : A) → IsStrictlyAscending cmp xs → AllByRecursion (λ x. IsBelow cmp x y) xs
    → IsStrictlyAscending cmp (xs ++ y ∷ [])
ascending_last cmp [] y up below = (tt, tt)
ascending_last cmp (x ∷ xs) y up below = (all_append (IsBelow cmp x) xs (y ∷ []) up.0 (below.0, tt), ascending_last cmp xs y up.1 below.1)

-- in an ascending list `xs ++ y ∷ ys`, each element of `xs` is below `y`
pub below_next : {A : Type 0} (cmp : A → A → Ordering) (xs : List A) (y : A) (ys : List A) → IsStrictlyAscending cmp (xs ++ y ∷ ys)
    → AllByRecursion (λ x. IsBelow cmp x y) xs
below_next cmp [] y ys up = tt
below_next cmp (x ∷ xs) y ys up =
    (below_by_recursion (IsBelow cmp x) (xs ++ y ∷ ys) y up.0 (Contains-append_right xs (y ∷ ys) y (cons-Contains-first y ys)), below_next cmp xs y ys up.1)
