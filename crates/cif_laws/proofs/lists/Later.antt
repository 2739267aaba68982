-- Lemmas on `AllLater`, which says that each member of a list is related to each later member. For
-- example, a list is strictly ascending if each member is below each later member.
use Rattle.cif_laws.proofs.Common.{arith, List, ◌∷◌, ◌≡◌, ◌⊎◌, Contains, Bool, map, ◌++◌, rules, [], common_steps, ⊤, filter, AllByRecursion, AllPairs}
use Rattle.cif_laws.proofs.Common.{flat_map, All-from_recursion}
use Rattle.std.proofs.lemmas.List.Kept.{AllPairs-cons}
use Rattle.cif_laws.proofs.lists.AllOf.{all_append, all_map, all_weaker}
use Rattle.cif_laws.proofs.lists.Membership.{nil-Contains, below_by_recursion, cons-Contains}
use Rattle.cif_laws.proofs.lists.Membership.{cons-Contains-first, each_member, Contains-flat_map}

-- each member is related to each later member
abbrev pub AllLater : {A : Type 0} → (A → A → Type 0) → List A → Type 0
AllLater R [] = ⊤
AllLater R (x ∷ xs) = AllByRecursion (R x) xs × AllLater R xs

-- if `AllLater` holds for a list, any two members are equal, or one is related to the other
pub one_before : {A : Type 0} (R : A → A → Type 0) (xs : List A) (a b : A) → AllLater R xs → Contains xs a → Contains xs b → (a ≡ b) ⊎ R a b ⊎ R b a
one_before R [] a b later in_a in_b = absurd (nil-Contains a in_a)
one_before R (x ∷ xs) a b later in_a in_b = grind (common_steps, arith, below_by_recursion, (one_before R xs a b later.1))

-- suppose that `AllLater` holds for a relation. If this relation implies another one for members of
-- the list, `AllLater` holds for the other relation too
pub later_weaker : {A : Type 0} (R S : A → A → Type 0) (xs : List A) → ((a b : A) → Contains xs a → Contains xs b → R a b → S a b) → AllLater R xs
    → AllLater S xs
later_weaker R S [] to later = tt
later_weaker R S (x ∷ xs) to later = (
  each_member (S x) xs (λ z among. to x z (cons-Contains-first x xs) (cons-Contains x xs z among) (below_by_recursion (R x) xs z later.0 among)),
  later_weaker R S xs (λ a b in_a in_b. to a b (cons-Contains x xs a in_a) (cons-Contains x xs b in_b)) later.1,
)

-- if all members of a list have a property, so have all members of the filtered list
all_filter : {A : Type 0} (P : A → Type 0) (test : A → Bool) (xs : List A) → AllByRecursion P xs → AllByRecursion P (filter test xs)
all_filter P test [] all = tt
all_filter P test (x ∷ xs) all = grind (arith, (all_filter P test xs all.1))

-- if `AllLater` holds for a list, it also holds for the filtered list
pub later_filter : {A : Type 0} (R : A → A → Type 0) (test : A → Bool) (xs : List A) → AllLater R xs → AllLater R (filter test xs)
later_filter R test [] later = tt
later_filter R test (x ∷ xs) later = grind (arith, all_filter, (later_filter R test xs later.1))

-- if the image of each member is related to the image of each later member, `AllLater` holds for
-- the mapped list
pub later_map : {A B : Type 0} (R : B → B → Type 0) (f : A → B) (xs : List A) → AllLater (λ a b. R (f a) (f b)) xs → AllLater R (map f xs)
later_map R f [] later = tt
later_map R f (x ∷ xs) later = (all_map f (R (f x)) xs later.0, later_map R f xs later.1)

-- suppose that `AllLater` holds for two lists. If each member of the first list is related to each
-- member of the second (`AllByRecursion`), `AllLater` holds for their concatenation
pub later_append_all : {A : Type 0} (R : A → A → Type 0) (xs ys : List A) → AllLater R xs → AllLater R ys → AllByRecursion (λ x. AllByRecursion (R x) ys) xs
    → AllLater R (xs ++ ys)
later_append_all R [] ys left right across = right
later_append_all R (x ∷ xs) ys left right across = (all_append (R x) xs ys left.0 across.0, later_append_all R xs ys left.1 right across.1)

-- like `later_append_all`, without `AllByRecursion`
pub later_append : {A : Type 0} (R : A → A → Type 0) (xs ys : List A) → AllLater R xs → AllLater R ys → ((a b : A) → Contains xs a → Contains ys b → R a b)
    → AllLater R (xs ++ ys)
later_append R xs ys first second across =
    later_append_all R xs ys first second (each_member _ xs (λ a in_a. each_member (R a) ys (λ b in_b. across a b in_a in_b)))

-- suppose that `AllLater` holds for several lists. If each member of a list is related to each
-- member of every later list, `AllLater` holds for their concatenation
pub later_flat_map : {A B : Type 0} (R : B → B → Type 0) (S : A → A → Type 0) (f : A → List B) (xs : List A) → AllLater S xs
    → ((x : A) → Contains xs x → AllLater R (f x))
    → ((x y : A) → Contains xs x → Contains xs y → S x y → (a b : B) → Contains (f x) a → Contains (f y) b → R a b) → AllLater R (flat_map f xs)
later_flat_map R S f [] later each across = tt
later_flat_map R S f (x ∷ xs) later each across = later_append R _ (flat_map f xs) (each x (cons-Contains-first _ xs))
    (later_flat_map _ S _ xs later.1 (λ y among. each y (cons-Contains _ xs _ among)) (search (rules, cons-Contains))) (λ a b in_a in_b.
    let found = Contains-flat_map f _ b in_b in
    across x found.0 (cons-Contains-first _ xs) (cons-Contains _ xs _ found.1) (below_by_recursion (S x) _ found.0 later.0 found.1) a b in_a found.2)

-- suppose that a relation between two values implies another relation between their images. If
-- `AllLater` holds for the first relation and a list, it holds for the second relation and the
-- mapped list
pub later_map_weaker : {A B : Type 0} (f : A → B) (R : A → A → Type 0) (S : B → B → Type 0) → ((x y : A) → R x y → S (f x) (f y))
    → (xs : List A) → AllLater R xs
    → AllLater S (map f xs)
later_map_weaker f R S keeps [] all = tt
later_map_weaker f R S keeps (x ∷ xs) all = (all_map _ (S (f x)) _ (all_weaker (R x) _ (λ y r. keeps x y r) xs all.0), later_map_weaker _ R _ keeps xs all.1)

-- if a relation implies another relation for all values, and `AllLater` holds for the first
-- relation, it also holds for the second
pub later_weaker_always : {A : Type 0} (R S : A → A → Type 0) → ((x y : A) → R x y → S x y) → (xs : List A) → AllLater R xs → AllLater S xs
later_weaker_always R S weaker [] all = tt
later_weaker_always R S weaker (x ∷ xs) all = (all_weaker (R x) (S x) (weaker x) xs all.0, later_weaker_always R S weaker xs all.1)

-- if `AllLater` holds for a list, each element is related to each element with a higher index
pub pairs_from_later : {A : Type 0} (R : A → A → Type 0) (xs : List A) → AllLater R xs → AllPairs R xs
pairs_from_later R [] all = λ i j d below within. absurd (omega arith)
pairs_from_later R (x ∷ xs) all = AllPairs-cons R x xs (All-from_recursion (R x) xs all.0) (pairs_from_later R xs all.1)
