-- The laws of a function that joins two values, derived from the laws of a relation between two
-- values and their join.
use Rattle.cif_laws.proofs.Common.{◌≡◌, rules}

-- The laws of a function that joins two values: it is commutative, associative and idempotent, and
-- the result is valid.
pub record ArePickLaws {E : Type 0} (valid : E → Type 0) (picked : E → E → E) : Type 0 where
  pub closed : (a b : E) → valid a → valid b → valid (picked a b)
  pub commutes : (a b : E) → valid a → valid b → picked a b ≡ picked b a
  pub associates : (a b c : E) → valid a → valid b → valid c → picked (picked a b) c ≡ picked a (picked b c)
  pub itself : (a : E) → valid a → picked a a ≡ a

-- suppose that the relation `is_join` is commutative, associative and idempotent. Suppose also that
-- two valid values have at most one join, and that this join is valid. Then `ArePickLaws` holds for
-- a function `picked` that always returns a join
pub pick_laws : {E : Type 0} (valid : E → Type 0) (is_join : E → E → E → Type 0) (picked : E → E → E)
    → ((a b c : E) → valid a → valid b → is_join a b c → valid c)
    → ((a b c d : E) → valid a → valid b → is_join a b c → is_join a b d → c ≡ d)
    → ((a b c : E) → valid a → valid b → is_join a b c → is_join b a c)
    → ((a b c ab bc left right : E) → valid a → valid b → valid c → is_join a b ab → is_join ab c left → is_join b c bc → is_join a bc right → left ≡ right)
    → ((a : E) → valid a → is_join a a a)
    → ((a b : E) → is_join a b (picked a b))
    → ArePickLaws valid picked
pick_laws = search rules
