-- Lemmas on membership in lists: in lists of one element, in `x ∷ xs`, in mapped lists, and in
-- concatenations.
use Rattle.cif_laws.proofs.Common.{◌≡◌, ℕ, suc, ◌<◌, List, ◌∷◌, length, inl, inr, arith, Contains, get_or, ◌⊎◌, refl, subst, lit<, map, ◌++◌, sym, All, []}
use Rattle.cif_laws.proofs.Common.{rules, Contains-append_cases, Contains-append_left, Contains-append_right, AllByRecursion, flat_map, ◌↔◌}

-- a member of `x ∷ xs` is `x` or a member of `xs`
pub Contains-cons : {A : Type 0} (x : A) (xs : List A) (z : A) → Contains (x ∷ xs) z → (x ≡ z) ⊎ Contains xs z
Contains-cons = search rules

-- `x` is a member of `x ∷ xs`
pub cons-Contains-first : {A : Type 0} (x : A) (xs : List A) → Contains (x ∷ xs) x
cons-Contains-first x xs = (0, omega arith, refl)

-- a member of `xs` is a member of `x ∷ xs`
pub cons-Contains : {A : Type 0} (x : A) (xs : List A) (z : A) → Contains xs z → Contains (x ∷ xs) z
cons-Contains x xs z among = (suc among.0, (let below = among.1 in omega arith), among.2)

-- the empty list has no member
pub nil-Contains : {A : Type 0} (z : A) → Contains [] z → ⊥
nil-Contains z among = let below : among.0 < length {A = ℕ} [] = among.1 in omega arith

-- if `AllByRecursion` holds for a property, each member of the list has the property
pub below_by_recursion : {A : Type 0} (P : A → Type 0) (xs : List A) (z : A) → AllByRecursion P xs → Contains xs z → P z
below_by_recursion P [] z all among = absurd (nil-Contains z among)
below_by_recursion P (x ∷ xs) z all among = grind (arith, (below_by_recursion P xs z all.1))

-- in a list of one element, the element at any index of the list is that element
pub only : {A : Type 0} (x y : A) (k : ℕ) → k < length (x ∷ []) → get_or (x ∷ []) k y ≡ y → x ≡ y
only = search rules

-- a member of a list of one element is that element
pub Contains-single : {A : Type 0} (x y : A) → Contains (x ∷ []) y → x ≡ y
Contains-single x y among = only x y among.0 among.1 among.2

-- the only element of a list of one element is a member of the list
pub single-Contains : {A : Type 0} (x y : A) → x ≡ y → Contains (x ∷ []) y
single-Contains x y same = (0, lit< tt, same)

-- each member of a mapped list is the image of a member of the original list
pub Contains-map : {A B : Type 0} (f : A → B) (xs : List A) (y : B) → Contains (map f xs) y → (x : A) × Contains xs x × (f x ≡ y)
Contains-map f [] y among = absurd (nil-Contains y among)
Contains-map f (x ∷ xs) y among = grind (arith, cons-Contains-first, cons-Contains, (Contains-map f xs y))

-- the image of each member of a list is a member of the mapped list
pub map-Contains : {A B : Type 0} (f : A → B) (xs : List A) (x : A) → Contains xs x → Contains (map f xs) (f x)
map-Contains f [] x among = absurd (nil-Contains x among)
map-Contains f (z ∷ xs) x among = grind (arith, cons-Contains-first, cons-Contains, (map-Contains f xs x))

-- each member of `flat_map f xs` is a member of `f x`, for some member `x` of `xs`
pub Contains-flat_map : {A B : Type 0} (f : A → List B) (xs : List A) (y : B) → Contains (flat_map f xs) y → (x : A) × Contains xs x × Contains (f x) y
Contains-flat_map f [] y among = absurd (nil-Contains y among)
Contains-flat_map f (x ∷ xs) y among = elim (Contains-append_cases (f x) (flat_map f xs) y among) [
  | inl here ↦ (x, cons-Contains-first x xs, here)
  | inr inside ↦ let found = (Contains-flat_map f xs y) inside in (found.0, cons-Contains x xs found.0 found.1, found.2)
]

-- each member of `f x`, for a member `x` of `xs`, is a member of `flat_map f xs`
pub flat_map-Contains : {A B : Type 0} (f : A → List B) (xs : List A) (x : A) (y : B) → Contains xs x → Contains (f x) y → Contains (flat_map f xs) y
flat_map-Contains f [] x y among there = absurd (nil-Contains x among)
flat_map-Contains f (z ∷ xs) x y among there = elim (Contains-cons z xs x among) [
  | inl same ↦ Contains-append_left (f z) (flat_map f xs) y (subst (λ v. Contains (f v) y) (sym same) there)
  | inr inside ↦ Contains-append_right (f z) (flat_map f xs) y (flat_map-Contains f xs x y inside there)
]

-- if `All` holds for a property, each member of the list has the property
pub member_of : {A : Type 0} (P : A → Type 0) (xs : List A) (x : A) → All P xs → Contains xs x → P x
member_of P xs x all among = subst P among.2 (all among.0 x among.1)

-- if each member of a list has a property, `All` holds for the property
pub all_members : {A : Type 0} (P : A → Type 0) (xs : List A) → ((x : A) → Contains xs x → P x) → All P xs
all_members = search (rules, cons-Contains-first, cons-Contains)

-- if each member of a list has a property, `AllByRecursion` holds for the property
pub each_member : {A : Type 0} (P : A → Type 0) (xs : List A) → ((z : A) → Contains xs z → P z) → AllByRecursion P xs
each_member P [] each = tt
each_member P (x ∷ xs) each = (each x (cons-Contains-first x xs), each_member P xs (λ z among. each z (cons-Contains x xs z among)))

-- two lists have the same members
abbrev pub SameMembers : {A : Type 0} → List A → List A → Type 0
SameMembers xs ys = (x : _) → Contains xs x ↔ Contains ys x

-- the relation "two lists have the same members" is symmetric
pub same_members_back : {A : Type 0} (xs ys : List A) → SameMembers xs ys → SameMembers ys xs
same_members_back xs ys same x = ((same x).1, (same x).0)

-- `xs ++ ys` and `ys ++ xs` have the same members
pub same_members_turned : {A : Type 0} (xs ys : List A) → SameMembers (xs ++ ys) (ys ++ xs)
same_members_turned xs ys x = (by xs ys, by ys xs)
  where
    by : (us vs : List _) → Contains (us ++ vs) x → Contains (vs ++ us) x
    by us vs among = elim (Contains-append_cases us vs x among) [
      | inl left ↦ Contains-append_right vs us x left
      | inr right ↦ Contains-append_left vs us x right
    ]

member_rotated : {A : Type 0} (a b c : List A) (x : A) → Contains ((a ++ b) ++ c) x → Contains ((b ++ c) ++ a) x
member_rotated a b c x among = elim (Contains-append_cases (a ++ b) c x among) [
  | inl here ↦ elim (Contains-append_cases a b x here) [
    | inl here ↦ Contains-append_right (b ++ c) a x here
    | inr here ↦ Contains-append_left (b ++ c) a x (Contains-append_left b c x here)
  ]
  | inr here ↦ Contains-append_left (b ++ c) a x (Contains-append_right b c x here)
]

-- the concatenation of three lists has the same members if the first list is moved to the end
pub same_members_rotated : {A : Type 0} (a b c : List A) → SameMembers ((a ++ b) ++ c) ((b ++ c) ++ a)
same_members_rotated a b c x = (member_rotated a b c x, λ among. member_rotated c a b x (member_rotated b c a x among))
