-- The walk over a state's live keys returns the live table, in ascending order of keys.
use Rattle.cif_laws.proofs.Common.{◌≡◌, List, [], ◌∷◌, refl, ap, sym, ◌∙◌, subst, inl, inr, Contains, Some, arith, rules, ◌↔◌, Key, Body, Op, put_with, Entry}
use Rattle.cif_laws.proofs.Common.{key_cmp, body_of, State, AreAscending, IsValid, live_table, filter_map, option_and_then}
use Rattle.state_laws.proofs.states.PlainTable.{find_in, one_per_key, live_at, live_none}
use Rattle.state_index.specs.PlaceRows.{live_row}
use Rattle.state_index.proofs.Positions.{chosen_from, chosen_to, chosen_ascends}
use Rattle.docker_state.specs.Live.{live_rows, AreInKeyOrder}

-- a key with its body
abbrev Row : Type 0
Row = Key × Body

put_of : (op : Op) (body : Body) → body_of op ≡ Some body → op ≡ put_with body
put_of = search rules

-- the walk over the entries returns the live row of each entry that has one
live_are : (entries : List (Key × Entry)) → live_rows entries ≡ filter_map live_row entries
live_are [] = refl
live_are (first ∷ entries) = grind (arith, (live_are entries))

live_row_is : (first : Key × Entry) (row : Row) → live_row first ≡ Some row → (first.0 ≡ row.0) × (first.1.op ≡ put_with row.1)
live_row_is = search rules

-- Says that some entry puts this body under this key.
abbrev pub PutThere : List (Key × Entry) → Key → Body → Type 0
PutThere entries key body = (entry : Entry) × Contains entries (key, entry) × (entry.op ≡ put_with body)

-- for each key and body that the walk over the entries returns, there is an entry that puts the body under the key
pub from_live : (entries : List (Key × Entry)) (key : Key) (body : Body) → Contains (live_rows entries) (key, body) → PutThere entries key body
from_live entries key body among =
    let found = chosen_from live_row entries (key, body) (subst (λ (rows : List Row). Contains rows (key, body)) (live_are entries) among) in
    let told = live_row_is found.0 (key, body) found.2 in
    (found.0.1, subst (Contains entries) (λ i. (told.0 i, found.0.1)) found.1, told.1)

-- the walk over the entries returns each key and body that an entry puts
pub to_live : (entries : List (Key × Entry)) (key : Key) (entry : Entry) (body : Body) → entry.op ≡ put_with body → Contains entries (key, entry)
    → Contains (live_rows entries) (key, body)
to_live entries key entry body is among = subst (λ (rows : List Row). Contains rows (key, body)) (sym (live_are entries))
    (chosen_to live_row entries (key, entry) (key, body) among (ap (λ op. option_and_then {U = Row} (λ (b : Body). Some (key, b)) (body_of op)) is))

-- in a valid state, if an entry puts a body under a key, the body is live under the key
pub live_put : (state : State) → IsValid state → (key : Key) (body : Body) → PutThere state.entries key body → live_table state key ≡ Some body
live_put state valid key body put = elim (find_in state.entries key) [
  | inl found ↦
      let same = one_per_key state.entries valid.entries.1 key found.0.1 put.0 found.2 put.1 in
      live_at state key found.0 found.1 ∙ (λ i. body_of (same i).op) ∙ ap body_of put.2
  | inr gone ↦ absurd (gone.1 put.0 put.1)
]

-- if a body is live under a key, an entry puts the body under the key
pub live_has : (state : State) (key : Key) (body : Body) → live_table state key ≡ Some body → PutThere state.entries key body
live_has = search (rules, find_in, put_of, live_at, live_none)

-- in a valid state, the walk over the entries returns a key with a body if and only if this body is live under the key
pub live_walks : (state : State) → IsValid state → (walked : List (Key × Body)) → walked ≡ live_rows state.entries
    → (key : Key) (body : Body) → Contains walked (key, body) ↔ (live_table state key ≡ Some body)
live_walks state valid walked walked_is key body = (
  λ among. live_put state valid key body (from_live state.entries key body (subst (λ (rows : List (Key × Body)). Contains rows (key, body)) walked_is among)),
  λ is.
      let put = live_has state key body is in
      subst (λ (rows : List (Key × Body)). Contains rows (key, body)) (sym walked_is) (to_live state.entries key put.0 body put.2 put.1),
)

-- the walk over ascending entries returns keys in ascending order
pub ascends : (entries : List (Key × Entry)) → AreAscending entries → AreInKeyOrder (live_rows entries)
ascends entries up = subst AreInKeyOrder (sym (live_are entries)) (chosen_ascends live_row _ _ (λ a b c d below is_c is_d.
    sym (λ i. key_cmp ((live_row_is a c is_c).0 i) ((live_row_is b d is_d).0 i)) ∙ below) entries up)

-- the walk over the entries of a valid state returns keys in ascending order
pub live_ascends : (state : State) → IsValid state → (walked : List (Key × Body)) → walked ≡ live_rows state.entries → AreInKeyOrder walked
live_ascends state valid walked is = subst AreInKeyOrder (sym is) (ascends state.entries valid.entries.1)
