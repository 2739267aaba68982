-- Lapsing a table with a horizon keeps exactly the bodies that didn't end before the horizon.
-- Lapsing a state lapses its live table.
use Rattle.cif_laws.proofs.Common.{◌≡◌, ℕ, ◌<◌, ◌≤◌, List, [], ◌∷◌, refl, ap, ◌∙◌, cond, Some, None, arith, rules, Option, find, option_and_then, is_eq, lt-ltb}
use Rattle.cif_laws.proofs.Common.{le-ltb, Key, Body, key_cmp, body_end, Op, body_of, Entry, Table, lapse, lapse_entries, lapse_table, State, live_table}
use Rattle.cif_laws.proofs.Common.{lapse_state}
use Rattle.docker_model.specs.state.Lapse.{unlapsed}
use Rattle.state_laws.proofs.states.Lapse.{below_or, put_lapses, put_stays}
use Rattle.state_laws.proofs.states.PlainTable.{Keyed}

-- ---- a body lapses or stays

-- a body that ended before the horizon is removed
pub body_gone : (horizon : ℕ) (body : Body) → body_end body < horizon → unlapsed horizon body ≡ None
body_gone horizon body below = λ i. cond (lt-ltb (body_end body) horizon below i) None (Some body)

-- a body that didn't end before the horizon is unchanged
pub body_stays : (horizon : ℕ) (body : Body) → horizon ≤ body_end body → unlapsed horizon body ≡ Some body
body_stays horizon body above = λ i. cond (le-ltb (body_end body) horizon above i) None (Some body)

-- if a body in a table didn't end before the horizon, it is still in the table after lapsing
pub live_stays : (horizon : ℕ) (table : Table) (key : Key) (body : Body) → table key ≡ Some body → horizon ≤ body_end body
    → lapse_table horizon table key ≡ Some body
live_stays horizon table key body is above = ap (option_and_then (unlapsed horizon)) is ∙ body_stays horizon body above

-- each body in a lapsed table was in the table before lapsing
pub was_live : (horizon : ℕ) (table : Table) (key : Key) (body : Body) → lapse_table horizon table key ≡ Some body → table key ≡ Some body
was_live = search (rules, below_or, body_gone, body_stays)

-- ---- lapsing a state lapses its live table

-- a lapsed op has the body that the op had before, unless this body ended before the horizon
pub body_lapses : (horizon : ℕ) (op : Op) → body_of (lapse horizon op) ≡ option_and_then (unlapsed horizon) (body_of op)
body_lapses = search (rules, below_or, put_lapses, body_gone, put_stays, body_stays)

-- the body of the entry that a search found, or `None` if the search found no entry
abbrev pub body_in : Option Keyed → Option Body
body_in found = option_and_then (λ (entry : Entry). body_of entry.op) (option_and_then (λ (entry : Keyed). Some entry.1) found)

found_lapsed : (horizon : ℕ) (entries : List Keyed) (key : Key)
    → body_in (find (λ entry. is_eq (key_cmp entry.0 key)) (lapse_entries horizon entries)) ≡ option_and_then (unlapsed horizon)
    (body_in (find (λ entry. is_eq (key_cmp entry.0 key)) entries))
found_lapsed horizon [] key = refl
found_lapsed horizon (first ∷ entries) key = grind (arith, body_lapses, (found_lapsed horizon entries key))

-- at each key, the live table of a lapsed state equals the lapsed live table of the state
pub live_lapsed_at : (horizon : ℕ) (state : State) (key : Key) → live_table (lapse_state horizon state) key ≡ lapse_table horizon (live_table state) key
live_lapsed_at horizon state key = found_lapsed horizon state.entries key

-- the live table of a lapsed state equals the lapsed live table of the state
pub live_lapsed : (horizon : ℕ) (state : State) → live_table (lapse_state horizon state) ≡ lapse_table horizon (live_table state)
live_lapsed horizon state = λ i key. live_lapsed_at horizon state key i
