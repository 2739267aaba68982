-- Of all values with a property, a search in a list finds the one that comes first in an order,
-- under two conditions. The list must have each value with the property, and a value must pass the
-- test of the search if and only if it has the property.
use Rattle.cif_laws.proofs.Common.{◌≡◌, List, refl, Some, None, Bool, true, Contains, rules, Option, find, Ordering, IsTotalOrder, IsAtMost}
use Rattle.docker_laws.specs.Best.{IsBest}
use Rattle.cif_laws.proofs.lists.BoolsAndOptions.{true_is_not}
use Rattle.cif_laws.proofs.orders.Least.{is_least, found_least, none_passes}

-- the option has the first value with the property: this value has the property, and no other value
-- with the property comes before it. The option is `None` if no value has the property
abbrev pub IsFirst : {A : Type 0} → (A → A → Ordering) → (A → Type 0) → Option A → Type 0
IsFirst {A} cmp Is None = (x : A) → ¬ Is x
IsFirst {A} cmp Is (Some x) = Is x × ((other : A) → Is other → IsAtMost cmp x other)

module _ {A : Type 0} {cmp : A → A → Ordering} (total : IsTotalOrder cmp) (test : A → Bool) (xs : List A) (Is : A → Type 0)
    (holds : (x : A) → Contains xs x → test x ≡ true → Is x) (among : (x : A) → Is x → Contains xs x) (passes : (x : A) → Is x → test x ≡ true) where
  -- the best element of the list is the first value with the property
  pub best_is_first : (found : Option A) → IsBest cmp test xs found → IsFirst cmp Is found
  best_is_first = search (rules, true_is_not)

  -- a search in the list finds the first value with the property
  pub found_is_first : IsFirst cmp Is (find (is_least total test xs) xs)
  found_is_first = by (find (is_least total test xs) xs) refl
    where
      by : (found : Option A) → find (is_least total test xs) xs ≡ found → IsFirst cmp Is found
      by None h = best_is_first None (none_passes total test xs h)
      by (Some x) h = let best = found_least total test xs x h in best_is_first (Some x) (best.among, best.passes, best.first)
