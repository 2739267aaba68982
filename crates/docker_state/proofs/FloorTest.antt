-- Lemmas on filtering a list: an element passes if its file stamp isn't below the floor.
use Rattle.cif_laws.proofs.Common.{◌≡◌, arith, List, [], ◌∷◌, map, refl, ap, sym, ◌∙◌, subst, Contains, Bool, true, false, Some, None, rules, filter, Option}
use Rattle.cif_laws.proofs.Common.{◌↔◌, IsTrue, Less, Equal, Greater, FileStamp, file_stamp_cmp, IsKept, Ordering, IsBelow, IsStrictlyAscending}
use Rattle.cif_laws.proofs.lists.Later.{later_filter}
use Rattle.cif_laws.proofs.orders.Ascending.{ascending_of, later_of}
use Rattle.cif_laws.proofs.lists.FilteredMembers.{filter_back, filter_forth}

-- if a test depends only on the value of a function, filtering a list by the test commutes with mapping the function over the list
pub filter-map : {A B : Type 0} (f : A → B) (test : B → Bool) (xs : List A) → map f (filter (λ x. test (f x)) xs) ≡ filter test (map f xs)
filter-map f test [] = refl
filter-map f test (x ∷ xs) = grind (arith, (filter-map f test xs))

-- whether the result of a comparison is `Less` or `Equal`
not_above : Ordering → Bool
not_above Less = true
not_above Equal = true
not_above Greater = false

-- whether a stamp isn't below a floor; true if there is no floor
pub keeps : Option FileStamp → FileStamp → Bool
keeps None stamp = true
keeps (Some floor) stamp = not_above (file_stamp_cmp floor stamp)

-- a stamp that passes the test `keeps floor` isn't below the floor
pub keeps_is : (floor : Option FileStamp) (stamp : FileStamp) → keeps floor stamp ≡ true → IsKept floor stamp
unfolding keeps not_above
keeps_is = search (rules, not_above)

-- a stamp that isn't below the floor passes the test `keeps floor`
pub is_keeps : (floor : Option FileStamp) (stamp : FileStamp) → IsKept floor stamp → keeps floor stamp ≡ true
unfolding keeps not_above
is_keeps = search (rules, not_above)

-- a test that passes if and only if the stamp isn't below the floor returns the same as `keeps floor stamp`
pub says_kept : (floor : Option FileStamp) (stamp : FileStamp) (b : Bool) → IsTrue b ↔ IsKept floor stamp → b ≡ keeps floor stamp
says_kept = search (rules, is_keeps, keeps, keeps_is)

-- the lemmas for the elements that aren't below a floor, after a function has converted them
module _ {A B : Type 0} (f : A → B) (cmp : B → B → Ordering) (floor : Option FileStamp) (stamp : B → FileStamp) (xs ys : List A)
    (is : ys ≡ filter (λ x. keeps floor (stamp (f x))) xs) where
  as_meant : map f ys ≡ filter (λ v. keeps floor (stamp v)) (map f xs)
  as_meant = ap (map f) is ∙ filter-map f (λ v. keeps floor (stamp v)) xs

  -- if the converted elements ascend, so do the converted elements that aren't below the floor
  pub kept_ascends : IsStrictlyAscending cmp (map f xs) → IsStrictlyAscending cmp (map f ys)
  kept_ascends up = subst (IsStrictlyAscending cmp) (sym as_meant) (ascending_of cmp _
      (later_filter (IsBelow cmp) (λ v. keeps floor (stamp v)) (map f xs) (later_of cmp (map f xs) up)))

  -- the converted elements that the filter leaves are exactly the converted elements that aren't below the floor
  pub kept_members : (z : B) → Contains (map f ys) z ↔ (Contains (map f xs) z × IsKept floor (stamp z))
  kept_members z = (
    λ among. let found = filter_back (λ v. keeps floor (stamp v)) (map f xs) z (subst (λ zs. Contains zs z) as_meant among) in
        (found.0, keeps_is floor (stamp z) found.1),
    λ found. subst (λ zs. Contains zs z) (sym as_meant) (filter_forth (λ v. keeps floor (stamp v)) (map f xs) z found.0 (is_keeps floor (stamp z) found.1)),
  )
