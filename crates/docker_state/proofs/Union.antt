-- A walk over two ascending lists at once. Its output has the elements of both lists, in ascending order and without duplicates.
use Rattle.cif_laws.proofs.Common.{◌≡◌, List, [], ◌∷◌, ◌++◌, refl, ap, sym, ◌∙◌, subst, inl, inr, ◌⊎◌, Contains, None, MatchOption, arith, rules, ◌↔◌, Option}
use Rattle.cif_laws.proofs.Common.{⊤, option_to_list, AllByRecursion, Ordering, Less, Equal, Greater, ordering_reverse, IsTotalOrder, append-nil, IsBelow}
use Rattle.cif_laws.proofs.Common.{IsStrictlyAscending}
use Rattle.cif_laws.proofs.lists.AllOf.{all_weaker}
use Rattle.cif_laws.proofs.lists.Membership.{below_by_recursion, each_member, cons-Contains, cons-Contains-first, nil-Contains}

-- one step of the walk: the lesser of two elements, followed by the rest of the walk
abbrev pub placed : {A : Type 0} → Ordering → A → A → List A → List A → List A → List A
placed Less x y less equal greater = x ∷ less
placed Equal x y less equal greater = x ∷ equal
placed Greater x y less equal greater = y ∷ greater

-- the walk that begins at element `x` of the first list. `rest` is the walk that begins at the next element of this list
abbrev pub united_from : {A : Type 0} → (A → A → Ordering) → A → (List A → List A) → List A → List A
united_from cmp x rest [] = x ∷ rest []
united_from cmp x rest (y ∷ ys) = placed (cmp x y) x y (rest (y ∷ ys)) (rest ys) (united_from cmp x rest ys)

-- the walk over two ascending lists at once, which returns the elements of both lists
abbrev pub united : {A : Type 0} → (A → A → Ordering) → List A → List A → List A
united cmp [] ys = ys
united cmp (x ∷ xs) ys = united_from cmp x (united cmp xs) ys

-- if all elements of two lists have a property, so do all elements that the walk over them returns
module _ {A : Type 0} (cmp : A → A → Ordering) (P : A → Type 0) where
  from_all : (x : A) (rest : List A → List A) → P x → ((ys : List A) → AllByRecursion P ys → AllByRecursion P (rest ys))
      → (ys : List A) → AllByRecursion P ys → AllByRecursion P (united_from cmp x rest ys)
  from_all x rest here behind [] all = (here, behind [] tt)
  from_all x rest here behind (y ∷ ys) all = grind (arith, (from_all x rest here behind ys all.1))

  united_all : (xs ys : List A) → AllByRecursion P xs → AllByRecursion P ys → AllByRecursion P (united cmp xs ys)
  united_all [] ys all_x all_y = all_y
  united_all (x ∷ xs) ys all_x all_y = from_all x (united cmp xs) all_x.0 (λ zs. united_all xs zs all_x.1) ys all_y

module _ {A : Type 0} {cmp : A → A → Ordering} (total : IsTotalOrder cmp) where
  -- elements that are above one element are above any lower element, and above any element that ties with it
  above_lower : (low high : A) (xs : List A) → cmp low high ≡ Less → AllByRecursion (IsBelow cmp high) xs → AllByRecursion (IsBelow cmp low) xs
  above_lower low high xs below = all_weaker (IsBelow cmp high) (IsBelow cmp low) (λ x above. total.trans low high x below above) xs

  above_level : (low high : A) (xs : List A) → cmp low high ≡ Equal → AllByRecursion (IsBelow cmp high) xs → AllByRecursion (IsBelow cmp low) xs
  above_level low high xs tied = all_weaker (IsBelow cmp high) (IsBelow cmp low) (λ x above. total.congr low high x tied ∙ above) xs

  from_ascends : (x : A) (xs : List A) → IsStrictlyAscending cmp (x ∷ xs) →
      ((ys : List A) → IsStrictlyAscending cmp ys → IsStrictlyAscending cmp (united cmp xs ys))
      → (ys : List A) → IsStrictlyAscending cmp ys → IsStrictlyAscending cmp (united_from cmp x (united cmp xs) ys)
  from_ascends x xs up_x behind [] up_y = (united_all cmp (IsBelow cmp x) xs [] up_x.0 tt, behind [] tt)
  from_ascends x xs up_x behind (y ∷ ys) up_y = by (cmp x y) refl (from_ascends x xs up_x behind ys up_y.1)
    where
      by : (o : Ordering) → cmp x y ≡ o → IsStrictlyAscending cmp (united_from cmp x (united cmp xs) ys)
          → IsStrictlyAscending cmp (placed o x y (united cmp xs (y ∷ ys)) (united cmp xs ys) (united_from cmp x (united cmp xs) ys))
      by Less is later = (united_all cmp (IsBelow cmp x) xs (y ∷ ys) up_x.0 (is, above_lower x y ys is up_y.0), behind (y ∷ ys) up_y)
      by Equal is later = (united_all cmp (IsBelow cmp x) xs ys up_x.0 (above_level x y ys is up_y.0), behind ys up_y.1)
      by Greater is later =
          let turned : cmp y x ≡ Less = total.antisymm y x ∙ ap ordering_reverse is in
          (united_all cmp (IsBelow cmp y) (x ∷ xs) ys (turned, above_lower y x xs turned up_x.0) up_y.0, later)

  -- the walk over two ascending lists results in an ascending list
  pub united_ascends : (xs ys : List A) → IsStrictlyAscending cmp xs → IsStrictlyAscending cmp ys → IsStrictlyAscending cmp (united cmp xs ys)
  united_ascends [] ys up_x up_y = up_y
  united_ascends (x ∷ xs) ys up_x up_y = from_ascends x xs up_x (λ zs up. united_ascends xs zs up_x.1 up) ys up_y

-- the lemmas for proving that the output of the walk has exactly the elements of both lists
module _ {A : Type 0} (cmp : A → A → Ordering) (exact : (x y : A) → cmp x y ≡ Equal → x ≡ y) where
  abbrev Either : List A → List A → A → Type 0
  Either xs ys z = Contains xs z ⊎ Contains ys z

  united_back : (xs ys : List A) (z : A) → Contains (united cmp xs ys) z → Either xs ys z
  united_back xs ys z = below_by_recursion (Either xs ys) (united cmp xs ys) z
      (united_all cmp (Either xs ys) xs ys (each_member (Either xs ys) xs (λ x among. inl among)) (each_member (Either xs ys) ys (λ y among. inr among)))

  -- if an output has all elements of two lists, this stays true when one more element is prepended to the first list and to the output
  out_first : (x : A) (xs ys tail : List A) (z : A) → (Either xs ys z → Contains tail z) → Either (x ∷ xs) ys z → Contains (x ∷ tail) z
  out_first = search (rules, cons-Contains, cons-Contains-first)

  out_second : (y : A) (xs ys tail : List A) (z : A) → (Either xs ys z → Contains tail z) → Either xs (y ∷ ys) z → Contains (y ∷ tail) z
  out_second = search (rules, cons-Contains, cons-Contains-first)

  out_both : (x y : A) (xs ys tail : List A) (z : A) → x ≡ y → (Either xs ys z → Contains tail z) → Either (x ∷ xs) (y ∷ ys) z → Contains (x ∷ tail) z
  out_both = search (rules, out_first, cons-Contains-first, cons-Contains)

  from_forth : (x : A) (xs : List A) (rest : List A → List A) → ((ys : List A) (z : A) → Either xs ys z → Contains (rest ys) z)
      → (ys : List A) (z : A) → Either (x ∷ xs) ys z → Contains (united_from cmp x rest ys) z
  from_forth x xs rest behind [] z among = out_first x xs [] (rest []) z (behind [] z) among
  from_forth x xs rest behind (y ∷ ys) z among = by (cmp x y) refl (from_forth x xs rest behind ys z) among
    where
      by : (o : Ordering) → cmp x y ≡ o → (Either (x ∷ xs) ys z → Contains (united_from cmp x rest ys) z)
          → Either (x ∷ xs) (y ∷ ys) z → Contains (placed o x y (rest (y ∷ ys)) (rest ys) (united_from cmp x rest ys)) z
      by Less is later inside = out_first x xs (y ∷ ys) (rest (y ∷ ys)) z (behind (y ∷ ys) z) inside
      by Equal is later inside = out_both x y xs ys (rest ys) z (exact x y is) (behind ys z) inside
      by Greater is later inside = out_second y (x ∷ xs) ys (united_from cmp x rest ys) z later inside

  pub united_forth : (xs ys : List A) (z : A) → Contains xs z ⊎ Contains ys z → Contains (united cmp xs ys) z
  united_forth [] ys z (inl among) = absurd (nil-Contains z among)
  united_forth [] ys z (inr among) = among
  united_forth (x ∷ xs) ys z among = from_forth x xs (united cmp xs) (united_forth xs) ys z among

-- if the walk finds no next element in a list, no element of the list remains
pub none_left : {A : Type 0} (hand : Option A) (rest : List A) → hand ≡ None → MatchOption hand (rest ≡ []) (λ _. ⊤) → option_to_list hand ++ rest ≡ []
none_left = search rules

-- when no element remains in either list, the output is the walk over both lists
pub all_out : {A : Type 0} (cmp : A → A → Ordering) (out left right first second : List A) → left ≡ [] → right ≡ []
    → out ++ united cmp left right ≡ united cmp first second → out ≡ united cmp first second
all_out cmp out left right first second no_left no_right same = sym (append-nil out) ∙ sym (λ i. out ++ united cmp (no_left i) (no_right i)) ∙ same

-- the output ascends, and it has exactly the elements of both lists
module _ {A : Type 0} {cmp : A → A → Ordering} (total : IsTotalOrder cmp) (exact : (x y : A) → cmp x y ≡ Equal → x ≡ y) (out first second : List A)
    (is : out ≡ united cmp first second) where
  pub union_ascends : IsStrictlyAscending cmp first → IsStrictlyAscending cmp second → IsStrictlyAscending cmp out
  union_ascends up_first up_second = subst (IsStrictlyAscending cmp) (sym is) (united_ascends total first second up_first up_second)

  pub union_members : (z : A) → Contains out z ↔ (Contains first z ⊎ Contains second z)
  union_members z = (
    λ among. united_back cmp exact first second z (subst (λ zs. Contains zs z) is among),
    λ among. subst (λ zs. Contains zs z) (sym is) (united_forth cmp exact first second z among),
  )
