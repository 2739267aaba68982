-- Lemmas on membership in the lists that `filter` and `filter_map` return, and on the results of a
-- search.
use Rattle.cif_laws.proofs.Common.{◌≡◌, List, ◌∷◌, refl, ap, ◌∙◌, subst, inl, inr, Some, None, Bool, true, false, cond, Contains, arith, [], Option, filter}
use Rattle.cif_laws.proofs.Common.{find, ◌&&◌, list_all, filter_map, cons_option}
use Rattle.cif_laws.proofs.lists.Membership.{Contains-cons, cons-Contains, cons-Contains-first, nil-Contains}
use Rattle.cif_laws.proofs.lists.BoolsAndOptions.{both, none_some}

-- the members of a filtered list are the members of the list that pass the test
module _ {A : Type 0} (test : A → Bool) where
  -- a member of the filtered list is a member of the list and passes the test
  pub filter_back : (xs : List A) (z : A) → Contains (filter test xs) z → Contains xs z × (test z ≡ true)
  filter_back [] z among = absurd (nil-Contains z among)
  filter_back (x ∷ xs) z among = grind (arith, cons-Contains, cons-Contains-first, (filter_back xs z))

  -- a member of the list that passes the test is in the filtered list
  pub filter_forth : (xs : List A) (z : A) → Contains xs z → test z ≡ true → Contains (filter test xs) z
  filter_forth [] z among passes = absurd (nil-Contains z among)
  filter_forth (x ∷ xs) z among passes = elim (Contains-cons x xs z among) [
    | inl same ↦ rw (ap test same ∙ passes) (subst (Contains (x ∷ filter test xs)) same (cons-Contains-first x (filter test xs)))
    | inr inside ↦ elim (test x) as (λ b. Contains (cond b (x ∷ filter test xs) (filter test xs)) z) [
      | true ↦ cons-Contains x (filter test xs) z (filter_forth xs z inside passes)
      | false ↦ filter_forth xs z inside passes
    ]
  ]

  -- the result of a search is a member that passes the test
  pub find_some : (xs : List A) (z : A) → find test xs ≡ Some z → Contains xs z × (test z ≡ true)
  find_some [] z found = none_some z found
  find_some (x ∷ xs) z found = grind (arith, cons-Contains-first, cons-Contains, (find_some xs z))

  -- if the result of a search is `None`, no member passes the test
  pub find_none : (xs : List A) (z : A) → find test xs ≡ None → Contains xs z → test z ≡ false
  find_none [] z found among = absurd (nil-Contains z among)
  find_none (x ∷ xs) z found among = grind (arith, (find_none xs z))

  -- if `list_all` is true for a test, each member passes the test
  pub all_of : (xs : List A) (z : A) → list_all test xs ≡ true → Contains xs z → test z ≡ true
  all_of [] z all among = absurd (nil-Contains z among)
  all_of (x ∷ xs) z all among = grind (arith, both, (all_of xs z))

  -- if each member passes a test, `list_all` is true for the test
  pub all_by : (xs : List A) → ((z : A) → Contains xs z → test z ≡ true) → list_all test xs ≡ true
  all_by [] each = refl
  all_by (x ∷ xs) each = λ i. each x (cons-Contains-first x xs) i && all_by xs (λ z among. each z (cons-Contains x xs z among)) i

-- the members of `filter_map h xs`
module _ {A B : Type 0} (h : A → Option B) where
  -- each member of `filter_map h xs` is the value of `h` at a member of `xs`
  pub part_back : (xs : List A) (y : B) → Contains (filter_map h xs) y → (x : A) × Contains xs x × (h x ≡ Some y)
  part_back [] y among = absurd (nil-Contains y among)
  part_back (x ∷ xs) y among = grind (arith, cons-Contains, cons-Contains-first, (part_back xs y))

  -- if `h` has a value at a member of `xs`, this value is a member of `filter_map h xs`
  pub part_forth : (xs : List A) (x : A) (y : B) → Contains xs x → h x ≡ Some y → Contains (filter_map h xs) y
  part_forth [] x y among is = absurd (nil-Contains x among)
  part_forth (z ∷ xs) x y among is = elim (Contains-cons z xs x among) [
    | inl same ↦ rw (ap h same ∙ is) (cons-Contains-first y (filter_map h xs))
    | inr inside ↦ elim (h z) as (λ o. Contains (cons_option o (filter_map h xs)) y) [
      | None ↦ part_forth xs x y inside is
      | Some b ↦ cons-Contains b (filter_map h xs) y (part_forth xs x y inside is)
    ]
  ]
