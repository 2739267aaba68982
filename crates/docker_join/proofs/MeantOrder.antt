-- Lists whose elements ascend by the values of a function.
use Rattle.cif_laws.proofs.Common.{List, [], ◌∷◌, map, AllByRecursion, Ordering, IsBelow, IsStrictlyAscending}
use Rattle.cif_laws.proofs.lists.AllOf.{all_map}

-- if the elements of a list ascend by the values of `f`, the list of these values ascends
pub ascending_meant : {A B : Type 0} (f : A → B) (cmp : B → B → Ordering) (xs : List A) → IsStrictlyAscending (λ a b. cmp (f a) (f b)) xs
    → IsStrictlyAscending cmp (map f xs)
ascending_meant f cmp [] up = tt
ascending_meant f cmp (x ∷ xs) up = (all_map f (IsBelow cmp (f x)) xs up.0, ascending_meant f cmp xs up.1)

all_back : {A B : Type 0} (f : A → B) (P : B → Type 0) (xs : List A) → AllByRecursion P (map f xs) → AllByRecursion (λ x. P (f x)) xs
all_back f P [] all = tt
all_back f P (x ∷ xs) all = (all.0, all_back f P xs all.1)

-- if the list of the values of `f` ascends, the elements themselves ascend by these values
pub meant_ascending : {A B : Type 0} (f : A → B) (cmp : B → B → Ordering) (xs : List A) → IsStrictlyAscending cmp (map f xs)
    → IsStrictlyAscending (λ a b. cmp (f a) (f b)) xs
meant_ascending f cmp [] up = tt
meant_ascending f cmp (x ∷ xs) up = (all_back f (IsBelow cmp (f x)) xs up.0, meant_ascending f cmp xs up.1)
