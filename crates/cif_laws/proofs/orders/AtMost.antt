-- Lemmas on the relation "at most" in a total order.
use Rattle.cif_laws.proofs.Common.{◌≡◌, true, ◌⊎◌, rules, IsTotalOrder, tied_itself, is_eq, Ordering, Less, Equal, Greater, IsAtMost, IsBelow}

-- an ordering that passes the test `is_eq` is `Equal`
pub eq_is : (o : Ordering) → is_eq o ≡ true → o ≡ Equal
eq_is = search rules

-- an ordering that is `Less` isn't `Greater`
pub less_not_greater : (o : Ordering) → o ≡ Less → ¬ (o ≡ Greater)
less_not_greater o less greater = cc

-- if `a` is at most `b` and `b` is at most `a`, they compare as `Equal`
pub level : {A : Type 0} {cmp : A → A → Ordering} → IsTotalOrder cmp → (a b : A) → IsAtMost cmp a b → IsAtMost cmp b a → cmp a b ≡ Equal
level = search rules

-- each value is at most itself
pub at_most_itself : {A : Type 0} {cmp : A → A → Ordering} → IsTotalOrder cmp → (a : A) → IsAtMost cmp a a
at_most_itself total a greater = let tied = tied_itself total a in cc

-- a value that is below another value is also at most that value
pub at_most_below : {A : Type 0} (cmp : A → A → Ordering) (a b : A) → IsBelow cmp a b → IsAtMost cmp a b
at_most_below cmp a b below greater = cc

-- for any two values, the first is at most the second or the second is below the first
pub at_most_or : {A : Type 0} {cmp : A → A → Ordering} → IsTotalOrder cmp → (a b : A) → IsAtMost cmp a b ⊎ IsBelow cmp b a
at_most_or = search rules

-- the relation "at most" is transitive
pub at_most_trans : {A : Type 0} {cmp : A → A → Ordering} → IsTotalOrder cmp → (a b c : A) → IsAtMost cmp a b → IsAtMost cmp b c → IsAtMost cmp a c
at_most_trans = search rules
