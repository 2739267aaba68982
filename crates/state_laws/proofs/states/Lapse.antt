-- Lapsing is monotone: it preserves the order of ops and entries. Lapsing is idempotent. Lapsing
-- with one horizon and then with another equals lapsing with the greater of the two horizons.
use Rattle.cif_laws.proofs.Common.{◌≡◌, ℕ, ◌<◌, ◌≤◌, ◌⊎◌, cond, arith, rules, common_steps, max, Ordering, Greater, ordering_then, lt-ltb, le-ltb, ltb-true}
use Rattle.cif_laws.proofs.Common.{ltb-false, le-max_left, le-max_right, Body, IsAtMost, stamp_cmp, body_end, Op, lapsed, put_with, op_cmp, Entry, entry_cmp}
use Rattle.cif_laws.proofs.Common.{lapse, HasNotToLapse, lapse_entry}

-- ---- a put lapses or stays

-- a body ended before the horizon, or it ends on the horizon or later
pub below_or : (horizon : ℕ) (body : Body) → (body_end body < horizon) ⊎ (horizon ≤ body_end body)
below_or = search (rules, ltb-true, ltb-false)

-- if a body ended before the horizon, a put of this body lapses
pub put_lapses : (horizon : ℕ) (body : Body) → body_end body < horizon → lapse horizon (put_with body) ≡ lapsed
put_lapses horizon body below = λ i. cond (lt-ltb (body_end body) horizon below i) lapsed (put_with body)

-- if a body didn't end before the horizon, lapsing leaves a put of this body unchanged
pub put_stays : (horizon : ℕ) (body : Body) → horizon ≤ body_end body → lapse horizon (put_with body) ≡ put_with body
put_stays horizon body above = λ i. cond (le-ltb (body_end body) horizon above i) lapsed (put_with body)

-- an op that doesn't have to lapse is unchanged by lapsing
pub op_stays : (horizon : ℕ) (op : Op) → HasNotToLapse horizon op → lapse horizon op ≡ op
op_stays = search (rules, put_stays)

-- after an op has been lapsed with a horizon, it doesn't have to lapse again with the same horizon
pub has_lapsed : (horizon : ℕ) (op : Op) → HasNotToLapse horizon (lapse horizon op)
has_lapsed = grind (common_steps, arith, below_or, put_lapses, put_stays)

-- with the horizon 0, lapsing leaves each op unchanged
pub lapse_none : (op : Op) → lapse 0 op ≡ op
lapse_none = search (rules, put_stays)

-- ---- lapsing with two horizons equals lapsing with the greater horizon

-- if two numbers are at most `n`, the greater of them is at most `n`
pub max_most : (a b n : ℕ) → a ≤ n → b ≤ n → max a b ≤ n
max_most = omega arith

-- lapsing an op with one horizon and then with another equals lapsing it with the greater of the
-- two horizons
pub lapse_twice : (second first : ℕ) (op : Op) → lapse second (lapse first op) ≡ lapse (max second first) op
lapse_twice = grind (common_steps, arith, below_or, le-max_right, put_lapses, le-max_left, put_stays, max_most)

-- ---- lapsing preserves the order of ops

-- lapsing preserves the order of ops
pub lapse_keeps_order : (horizon : ℕ) (a b : Op) → IsAtMost op_cmp a b → IsAtMost op_cmp (lapse horizon a) (lapse horizon b)
lapse_keeps_order = search (rules, below_or, put_lapses, put_stays)

-- if `q` isn't `Greater` unless `p` is, the same is true after another comparison
pub then_at_most : (first p q : Ordering) → (¬ (p ≡ Greater) → ¬ (q ≡ Greater)) → ¬ (ordering_then first p ≡ Greater) → ¬ (ordering_then first q ≡ Greater)
then_at_most = search rules

-- lapsing preserves the order of entries
pub lapse_entry_keeps_order : (horizon : ℕ) (a b : Entry) → IsAtMost entry_cmp a b → IsAtMost entry_cmp (lapse_entry horizon a) (lapse_entry horizon b)
lapse_entry_keeps_order horizon a b most = then_at_most (stamp_cmp a.stamp b.stamp) _ _ (lapse_keeps_order horizon a.op b.op) most

-- ---- the laws for lapsing an op also hold for lapsing an entry

-- lapsing an entry with one horizon and then with another equals lapsing it with the greater of the
-- two horizons
pub entry_twice : (second first : ℕ) (entry : Entry) → lapse_entry second (lapse_entry first entry) ≡ lapse_entry (max second first) entry
entry_twice second first entry = λ i. record { stamp = entry.stamp; op = lapse_twice second first entry.op i }

-- an entry that doesn't have to lapse is unchanged by lapsing
pub entry_stays : (horizon : ℕ) (entry : Entry) → HasNotToLapse horizon entry.op → lapse_entry horizon entry ≡ entry
entry_stays horizon entry has_not = λ i. record { stamp = entry.stamp; op = op_stays horizon entry.op has_not i }
