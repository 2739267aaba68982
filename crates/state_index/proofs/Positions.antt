-- Lemmas on the elements of a list at given indexes, and on the rows that spots name. A spot is a TIPLOC with the index of a row there.
use Rattle.cif_laws.proofs.Common.{◌≡◌, ℕ, zero, suc, ◌+◌, ◌<◌, List, [], ◌∷◌, length, map, refl, ap, sym, ◌∙◌, subst, inl, inr, ◌⊎◌, Some, None, Contains}
use Rattle.cif_laws.proofs.Common.{arith, common_steps, Option, slice_get, AllByRecursion, filter_map, cons_option, Ordering, Less, Contains-append_right}
use Rattle.cif_laws.proofs.Common.{Contains-append_cases, Key, Entry, IsBelow, IsStrictlyAscending}
use Rattle.cif_laws.proofs.lists.Membership.{Contains-cons, cons-Contains, cons-Contains-first, nil-Contains, below_by_recursion, Contains-map, map-Contains}
use Rattle.state_index.specs.SpotOrder.{Spot}
use Rattle.state_index.specs.Spots.{Places, spot_at, spots_from, spots_of}

-- a key with its entry
abbrev pub Keyed : Type 0
Keyed = Key × Entry

none_some : {A : Type 0} (a : A) → None ≡ Some a → ⊥
none_some a h = cc

pub some_is : {A : Type 0} (a b : A) → Some a ≡ Some b → a ≡ b
some_is a b h = cc

module _ {A : Type 0} where
  -- a list without elements is empty
  pub none_left : (xs : List A) → length xs ≡ 0 → xs ≡ []
  none_left = grind (common_steps, arith)

  -- an element that a list has at some index is a member of the list
  pub at_member : (xs : List A) (i : ℕ) (x : A) → slice_get xs i ≡ Some x → Contains xs x
  at_member [] i x is = absurd (none_some x is)
  at_member (y ∷ ys) zero x is = subst (Contains (y ∷ ys)) (some_is y x is) (cons-Contains-first y ys)
  at_member (y ∷ ys) (suc i) x is = cons-Contains y ys x (at_member ys i x is)

  -- each member of a list is at some index
  pub member_at : (xs : List A) (x : A) → Contains xs x → (i : ℕ) × (slice_get xs i ≡ Some x)
  member_at [] x among = absurd (nil-Contains x among)
  member_at (y ∷ ys) x among = by (member_at ys x) (Contains-cons y ys x among)
    where
      by : (Contains ys x → (i : ℕ) × (slice_get ys i ≡ Some x)) → (y ≡ x) ⊎ Contains ys x → (i : ℕ) × (slice_get (y ∷ ys) i ≡ Some x)
      by rest (inl same) = (0, ap Some same)
      by rest (inr inside) = let found = rest inside in (suc found.0, found.1)

  -- in an ascending list, an element is below any element at a greater index
  pub at_ascends : (cmp : A → A → Ordering) (xs : List A) → IsStrictlyAscending cmp xs → (i j : ℕ) (x y : A) → i < j
      → slice_get xs i ≡ Some x → slice_get xs j ≡ Some y → cmp x y ≡ Less
  at_ascends cmp [] up i j x y before is_x is_y = absurd (none_some x is_x)
  at_ascends cmp (z ∷ zs) up i zero x y before is_x is_y = absurd (omega arith)
  at_ascends cmp (z ∷ zs) up zero (suc j) x y before is_x is_y = grind (common_steps, arith, some_is, below_by_recursion, at_member)
  at_ascends cmp (z ∷ zs) up (suc i) (suc j) x y before is_x is_y = at_ascends cmp zs up.1 i j x y (omega arith) is_x is_y

module _ {A B : Type 0} (f : A → Option B) where
  -- each element of `filter_map f xs` is the result of f for some element of xs
  pub chosen_from : (xs : List A) (z : B) → Contains (filter_map f xs) z → (x : A) × Contains xs x × (f x ≡ Some z)
  chosen_from [] z among = absurd (nil-Contains z among)
  chosen_from (x ∷ xs) z among = grind (arith, cons-Contains, cons-Contains-first, (chosen_from xs z))

  -- the result of f for an element of xs, if there is one, is in `filter_map f xs`
  pub chosen_to : (xs : List A) (x : A) (z : B) → Contains xs x → f x ≡ Some z → Contains (filter_map f xs) z
  chosen_to [] x z among is = absurd (nil-Contains x among)
  chosen_to (y ∷ ys) x z among is = by (f y) refl (λ inside. chosen_to ys x z inside is) (Contains-cons y ys x among)
    where
      by : (o : Option B) → f y ≡ o → (Contains ys x → Contains (filter_map f ys) z) → (y ≡ x) ⊎ Contains ys x → Contains (cons_option o (filter_map f ys)) z
      by None none rest (inl same) = absurd (none_some z (sym none ∙ ap f same ∙ is))
      by (Some c) some rest (inl same) =
          subst (Contains (c ∷ filter_map f ys)) (some_is c z (sym some ∙ ap f same ∙ is)) (cons-Contains-first c (filter_map f ys))
      by None none rest (inr inside) = rest inside
      by (Some c) some rest (inr inside) = cons-Contains c (filter_map f ys) z (rest inside)

  -- if f preserves the order of elements and xs ascends, `filter_map f xs` ascends
  module _ (low_cmp : A → A → Ordering) (cmp : B → B → Ordering) (keeps : (a b : A) (c d : B) → low_cmp a b ≡ Less → f a ≡ Some c → f b ≡ Some d → cmp c d
      ≡ Less) where
    chosen_above : (x : A) (c : B) → f x ≡ Some c → (xs : List A) → AllByRecursion (IsBelow low_cmp x) xs → AllByRecursion (IsBelow cmp c) (filter_map f xs)
    chosen_above x c is [] above = tt
    chosen_above x c is (y ∷ ys) above = grind (arith, (chosen_above x c is ys above.1))

    pub chosen_ascends : (xs : List A) → IsStrictlyAscending low_cmp xs → IsStrictlyAscending cmp (filter_map f xs)
    chosen_ascends [] up = tt
    chosen_ascends (x ∷ xs) up = grind (arith, chosen_above, (chosen_ascends xs up.1))

module _ (places : Places) where
  -- Says that a spot (a TIPLOC and a row's index) names one of these rows and one of the row's places. The first of these rows has the index `at`.
  abbrev StandsFrom : ℕ → List Keyed → Spot → Type 0
  StandsFrom at rows spot = (i : ℕ) × (row : Keyed) × (slice_get rows i ≡ Some row) × (spot.at ≡ i + at) × Contains (places row.0 row.1.op) spot.place

  from_spots : (at : ℕ) (rows : List Keyed) (spot : Spot) → Contains (spots_from places at rows) spot → StandsFrom at rows spot
  from_spots at [] spot among = absurd (nil-Contains spot among)
  from_spots at (row ∷ rows) spot among =
      by (from_spots (1 + at) rows spot) (Contains-append_cases (map (spot_at at) (places row.0 row.1.op)) (spots_from places (1 + at) rows) spot among)
    where
      by : (Contains (spots_from places (1 + at) rows) spot → StandsFrom (1 + at) rows spot)
          → Contains (map (spot_at at) (places row.0 row.1.op)) spot ⊎ Contains (spots_from places (1 + at) rows) spot → StandsFrom at (row ∷ rows) spot
      by rest (inl here) =
          let found = Contains-map (spot_at at) (places row.0 row.1.op) spot here in
          let here_at : at ≡ spot.at = ap (λ (s : Spot). s.at) found.2 in
          (0, row, refl, (omega arith), subst (Contains (places row.0 row.1.op)) (ap (λ (s : Spot). s.place) found.2) found.1)
      by rest (inr inside) =
          let found = rest inside in
          (suc found.0, found.1, found.2, (let is = found.3 in omega arith), found.4)

  to_spots : (at : ℕ) (rows : List Keyed) (i : ℕ) (row : Keyed) (place : List ℕ) → slice_get rows i ≡ Some row → Contains (places row.0 row.1.op) place
      → Contains (spots_from places at rows) (spot_at (i + at) place)
  to_spots at [] i row place is among = absurd (none_some row is)
  to_spots at (first ∷ rows) zero row place is among = grind (common_steps, arith, map-Contains, some_is)
  to_spots at (first ∷ rows) (suc i) row place is among =
      let next : i + (1 + at) ≡ suc i + at = omega arith in
      Contains-append_right (map (spot_at at) (places first.0 first.1.op)) (spots_from places (1 + at) rows) (spot_at (suc i + at) place)
      (subst (λ n. Contains (spots_from places (1 + at) rows) (spot_at n place)) next (to_spots (1 + at) rows i row place is among))

  -- Says that a spot (a TIPLOC and a row's index) names one of these rows and one of the row's places.
  abbrev pub Stands : List Keyed → Spot → Type 0
  Stands rows spot = (row : Keyed) × (slice_get rows spot.at ≡ Some row) × Contains (places row.0 row.1.op) spot.place

  pub spots_stand : (rows : List Keyed) (spot : Spot) → Contains (spots_of places rows) spot → Stands rows spot
  spots_stand rows spot among =
      let found = from_spots 0 rows spot among in
      let at : found.0 ≡ spot.at = (let is = found.3 in omega arith) in
      (found.1, subst (λ n. slice_get rows n ≡ Some found.1) at found.2, found.4)

  pub stand_spots : (rows : List Keyed) (spot : Spot) → Stands rows spot → Contains (spots_of places rows) spot
  stand_spots rows spot stands =
      let at : spot.at + 0 ≡ spot.at = omega arith in
      subst (λ n. Contains (spots_of places rows) (spot_at n spot.place)) at (to_spots 0 rows spot.at stands.0 spot.place stands.1 stands.2)
