-- Lemmas on sublists. A sublist has some elements of a list, possibly none or all, in the list's
-- order.
use Rattle.cif_laws.proofs.Common.{List, [], ◌∷◌, ◌++◌, ◌∙◌, refl, sym, subst, inl, inr, Contains, Bool, All, arith, filter}
use Rattle.docker_laws.specs.Excerpt.{IsSublist}
use Rattle.cif_laws.proofs.lists.Membership.{Contains-cons, cons-Contains, cons-Contains-first, nil-Contains}
use Rattle.cif_laws.proofs.lists.Membership.{below_by_recursion, each_member, member_of, all_members}
use Rattle.cif_laws.proofs.lists.Later.{AllLater}

-- a sublist of a list is also a sublist of the list with one more element prepended
pub sublist_behind : {A : Type 0} (xs ys : List A) (y : A) → IsSublist xs ys → IsSublist xs (y ∷ ys)
sublist_behind [] ys y is = tt
sublist_behind (x ∷ xs) ys y is = inr is

-- each list is a sublist of itself
pub sublist_itself : {A : Type 0} (xs : List A) → IsSublist xs xs
sublist_itself [] = tt
sublist_itself (x ∷ xs) = inl (refl, sublist_itself xs)

-- the elements of a list that pass a test are a sublist of the list
pub sublist_filter : {A : Type 0} (test : A → Bool) (xs : List A) → IsSublist (filter test xs) xs
sublist_filter test [] = tt
sublist_filter test (x ∷ xs) = grind (arith, sublist_behind, (sublist_filter test xs))

-- the members of a sublist are members of the list
pub sublist_member : {A : Type 0} (xs ys : List A) (z : A) → IsSublist xs ys → Contains xs z → Contains ys z
sublist_member [] ys z is among = absurd (nil-Contains z among)
sublist_member (x ∷ xs) [] z is among = absurd is
sublist_member (x ∷ xs) (y ∷ ys) z is among = elim is [
  | inl first ↦ elim (Contains-cons x xs z among) [
    | inl same ↦ subst (Contains (y ∷ ys)) (sym first.0 ∙ same) (cons-Contains-first y ys)
    | inr inside ↦ cons-Contains y ys z (sublist_member xs ys z first.1 inside)
  ]
  | inr rest ↦ cons-Contains y ys z (sublist_member (x ∷ xs) ys z rest among)
]

-- if each element of a list has a property, so has each element of a sublist
pub sublist_all : {A : Type 0} (P : A → Type 0) (xs ys : List A) → IsSublist xs ys → All P ys → All P xs
sublist_all P xs ys is all = all_members P xs (λ z among. member_of P ys z all (sublist_member xs ys z is among))

-- if each element of a list is related to each later element, the same is true of each sublist
pub sublist_later : {A : Type 0} (R : A → A → Type 0) (xs ys : List A) → IsSublist xs ys → AllLater R ys → AllLater R xs
sublist_later R [] ys is later = tt
sublist_later R (x ∷ xs) [] is later = absurd is
sublist_later R (x ∷ xs) (y ∷ ys) is later = elim is [
  | inl first ↦ (
    each_member (R x) xs (λ z among.
        subst (λ v. R v z) (sym first.0) (below_by_recursion (R y) ys z later.0 (sublist_member xs ys z first.1 among))),
    sublist_later R xs ys first.1 later.1,
  )
  | inr rest ↦ sublist_later R (x ∷ xs) ys rest later.1
]

-- the relation "is a sublist of" is transitive
pub sublist_onward : {A : Type 0} (xs ys zs : List A) → IsSublist xs ys → IsSublist ys zs → IsSublist xs zs
sublist_onward [] ys zs first second = tt
sublist_onward (x ∷ xs) [] zs first second = absurd first
sublist_onward (x ∷ xs) (y ∷ ys) [] first second = absurd second
sublist_onward (x ∷ xs) (y ∷ ys) (z ∷ zs) first second = elim second [
  | inl there ↦ elim first [
    | inl here ↦ inl (here.0 ∙ there.0, sublist_onward xs ys zs here.1 there.1)
    | inr later ↦ inr (sublist_onward (x ∷ xs) ys zs later there.1)
  ]
  | inr behind ↦ inr (sublist_onward (x ∷ xs) (y ∷ ys) zs first behind)
]

-- the concatenation of two sublists is a sublist of the concatenation of the two lists
pub sublist_append : {A : Type 0} (us xs vs ys : List A) → IsSublist us xs → IsSublist vs ys → IsSublist (us ++ vs) (xs ++ ys)
sublist_append [] [] vs ys first second = second
sublist_append [] (x ∷ xs) vs ys first second = sublist_behind vs (xs ++ ys) x (sublist_append [] xs vs ys tt second)
sublist_append (u ∷ us) [] vs ys first second = absurd first
sublist_append {A} (u ∷ us) (x ∷ xs) vs ys first second =
    elim first [ inl here ↦ inl (here.0, (sublist_append us xs vs ys here.1 second)) | inr later ↦ inr ((sublist_append (u ∷ us) xs vs ys later second)) ]

-- each prefix of a list is a sublist of the list
pub sublist_front : {A : Type 0} (xs ys : List A) → IsSublist xs (xs ++ ys)
sublist_front [] ys = tt
sublist_front (x ∷ xs) ys = inl (refl, sublist_front xs ys)
