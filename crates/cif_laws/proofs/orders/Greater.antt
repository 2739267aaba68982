-- The laws of taking the greater of two values. Some of them hold only if valid values that compare as equal are equal.
use Rattle.cif_laws.proofs.Common.{◌≡◌, refl, sym, subst, inl, inr, rules, Ordering, Equal, IsTotalOrder, IsAtMost}
use Rattle.std.specs.Ordering.{ord_max}
use Rattle.docker_model.specs.state.Order.{IsGreater}
use Rattle.cif_laws.proofs.orders.AtMost.{level, at_most_trans, at_most_itself, at_most_below}

-- Says that valid values that compare as equal are equal.
abbrev pub IsExact : {A : Type 0} → (A → Type 0) → (A → A → Ordering) → Type 0
IsExact {A} valid cmp = (a b : A) → valid a → valid b → cmp a b ≡ Equal → a ≡ b

module _ {A : Type 0} (valid : A → Type 0) {cmp : A → A → Ordering} (total : IsTotalOrder cmp) where
  -- the greater of two valid values is valid
  pub greater_closed : (a b c : A) → valid a → valid b → IsGreater cmp a b c → valid c
  greater_closed a b c good_a good_b is = elim is.among [ inl same ↦ subst valid (sym same) good_a | inr same ↦ subst valid (sym same) good_b ]

  -- if a value is at least as great as each of two values, it is at least as great as the greater
  -- of them
  pub greater_least : (a b c d : A) → IsGreater cmp a b c → IsAtMost cmp a d → IsAtMost cmp b d → IsAtMost cmp c d
  greater_least = search rules

  -- taking the greater of two values is commutative: it doesn't depend on the order of the values
  pub greater_commutes : (a b c : A) → valid a → valid b → IsGreater cmp a b c → IsGreater cmp b a c
  greater_commutes = search rules

  -- taking the greater of two values is idempotent: the greater of a value and itself is this value
  pub greater_itself : (a : A) → valid a → IsGreater cmp a a a
  greater_itself a good = record { among = inl refl; first = at_most_itself total a; second = at_most_itself total a }

  -- the greater of two valid values is unique
  pub greater_one : IsExact valid cmp → (a b c d : A) → valid a → valid b → IsGreater cmp a b c → IsGreater cmp a b d → c ≡ d
  greater_one = search (rules, greater_closed, level, greater_least)

  -- taking the greater of two valid values is associative: the greatest of three values is the same whichever two of them are compared first
  pub greater_associates : IsExact valid cmp → (a b c ab bc left right : A) → valid a → valid b → valid c
      → IsGreater cmp a b ab → IsGreater cmp ab c left → IsGreater cmp b c bc → IsGreater cmp a bc right → left ≡ right
  greater_associates exact a b c ab bc left right good_a good_b good_c is_ab is_left is_bc is_right = exact left right
      (greater_closed _ _ _ (greater_closed _ _ _ good_a good_b is_ab) good_c is_left)
      (greater_closed _ _ _ good_a (greater_closed _ _ _ good_b good_c is_bc) is_right)
      (level total _ _ (search (rules, greater_least, at_most_trans)) (search (rules, greater_least, at_most_trans)))

  -- `ord_max` of two values is the greater of them
  pub greater_max : (a b : A) → IsGreater cmp a b (ord_max cmp a b)
  greater_max = search (rules, at_most_itself, at_most_below)
