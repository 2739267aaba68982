-- The bodies in the live table of a valid state are well formed. Each of these bodies belongs to an
-- entry of the state.
use Rattle.cif_laws.proofs.Common.{◌≡◌, refl, ap, sym, ◌∙◌, subst, Some, None, Contains, rules, Option, find, is_eq, Key, Body, Op, deleted, lapsed, put_with}
use Rattle.cif_laws.proofs.Common.{Entry, body_of, key_cmp, State, IsValid, live_table, HasGoodBodies}
use Rattle.state_laws.proofs.states.PlainTable.{Keyed, live_at, live_none}
use Rattle.cif_laws.proofs.orders.Orders.{same_key}
use Rattle.cif_laws.proofs.lists.FilteredMembers.{find_some}

-- each body in the live table is the body of the state's entry at the same key
pub live_entry : (state : State) (key : Key) (body : Body) → live_table state key ≡ Some body → (entry : Entry) × Contains state.entries (key, entry)
    × (entry.op ≡ put_with body)
live_entry state key body is = by (find (λ entry. is_eq (key_cmp entry.0 key)) state.entries) refl
  where
    op_is : (op : Op) → body_of op ≡ Some body → op ≡ put_with body
    op_is deleted h = cc
    op_is lapsed h = cc
    op_is (put_with other) h = let e : other ≡ body = cc in ap put_with e

    by : (found : Option Keyed) → find (λ entry. is_eq (key_cmp entry.0 key)) state.entries ≡ found → (entry : Entry) × Contains state.entries (key, entry)
        × (entry.op ≡ put_with body)
    by None h = absurd (let bad : None ≡ Some body = sym (live_none state key h) ∙ is in cc)
    by (Some pair) h =
        let told = find_some (λ (entry : Keyed). is_eq (key_cmp entry.0 key)) state.entries pair h in
        let same : pair.0 ≡ key = same_key pair.0 key told.1 in
        let here : pair ≡ (key, pair.1) = (λ i. (same i, pair.1)) in
        (pair.1, subst (Contains state.entries) here told.0, op_is pair.1.op (sym (live_at state key pair h) ∙ is))

-- the bodies in the live table of a valid state are well formed
pub good_bodies : (state : State) → IsValid state → HasGoodBodies (live_table state)
good_bodies = search (rules, live_entry)
