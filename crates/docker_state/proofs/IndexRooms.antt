-- Memory that is enough for the index of some rows is also enough for the index of rows that follow from them. Such rows are left by a horizon, made by a join,
-- or made by the changes of a file.
use Rattle.cif_laws.proofs.Common.{◌≡◌, ℕ, List, ◌++◌, refl, ap, subst, inl, ◌⊎◌, Some, None, Contains, rules, Option, map-append, body_of, lapse}
use Rattle.cif_laws.proofs.Common.{lapse_entries, lapse_keyed, State, AreAscending, IsJoin}
use Rattle.docker_model.specs.file.Change as model
use Rattle.docker_model.specs.state.Op as ops
use Rattle.cif_laws.proofs.lists.Membership.{Contains-map, map-Contains}
use Rattle.state_laws.proofs.joins.JoinLaws.{join_commutes}
use Rattle.state_index.specs.declared.index.Index.{Index}
use Rattle.state_index.specs.Rooms.{Item, ComeFrom, HasRoomFor, changed_items, items_of}
use Rattle.state_index.proofs.RoomForRows.{room_for}
use Rattle.docker_state.specs.Indexed.{HasRoomIfAny}

-- a key with its entry
abbrev pub Keyed : Type 0
Keyed = model.Key × ops.Entry

-- if an index has room for some items whenever it has room for others, so has an optional index
pub if_any : (items others : List Item) → ((index : Index) → HasRoomFor items index → HasRoomFor others index) → (index : Option Index)
    → HasRoomIfAny items index → HasRoomIfAny others index
if_any items others more None room = tt
if_any items others more (Some index) room = more index room

-- a row whose op is another op that may have lapsed comes from the items with the key and that other op
comes : (items : List Item) (row : Keyed) (horizon : ℕ) (op : ops.Op) → Contains {X = Item} items (row.0, op) → lapse horizon op ≡ row.1.op
    → (from : ops.Op) × Contains {X = Item} items (row.0, from) × ((row.1.op ≡ from) ⊎ (body_of row.1.op ≡ None))
comes items row horizon op among same = search rules

-- the rows of a join come from the rows of the two states
joined_come : (first second joined : State) → IsJoin first second joined → ComeFrom (items_of first.entries ++ items_of second.entries) joined.entries
joined_come first second joined is row among =
    let from = (is.entries row.0 row.1).0 among in
    comes (items_of first.entries ++ items_of second.entries) row joined.horizon from.0.op
    (subst (λ (items : List Item). Contains {X = Item} items (row.0, from.0.op))
    (map-append {B = Item} (λ (r : Keyed). (r.0, r.1.op)) first.entries second.entries)
    (map-Contains {B = Item} (λ (r : Keyed). (r.0, r.1.op)) (first.entries ++ second.entries) (row.0, from.0) from.1.among))
    (ap (λ (entry : ops.Entry). entry.op) from.3)

-- memory for the rows of two states is enough for their join
pub room_of_join : (first second joined : State) → IsJoin first second joined → (index : Index)
    → HasRoomFor (items_of first.entries ++ items_of second.entries) index → HasRoomFor (items_of joined.entries) index
room_of_join first second joined is = search (rules, room_for, joined_come)

pub room_of_turned_join : (first second joined : State) → IsJoin first second joined → (index : Index)
    → HasRoomFor (items_of second.entries ++ items_of first.entries) index → HasRoomFor (items_of joined.entries) index
room_of_turned_join first second joined is = room_of_join second first joined (join_commutes first second joined is)

-- the memory of the rows' index is enough for the rows after they have lapsed
pub room_of_lapsed : (horizon : ℕ) (before rows : List Keyed) → rows ≡ lapse_entries horizon before → AreAscending rows → (index : Option Index)
    → HasRoomIfAny (items_of before) index → HasRoomIfAny (items_of rows) index
room_of_lapsed horizon before rows are up =
    if_any (items_of before) (items_of rows) (room_for (items_of before) rows up come)
  where
    come : ComeFrom (items_of before) rows
    come row among =
        let found = Contains-map (lapse_keyed horizon) before row (subst (λ (xs : List Keyed). Contains xs row) are among) in
        let key : found.0.0 ≡ row.0 = ap (λ (r : Keyed). r.0) found.2 in
        comes (items_of before) row horizon found.0.1.op
        (subst (λ (k : model.Key). Contains {X = Item} (items_of before) (k, found.0.1.op)) key
        (map-Contains {B = Item} (λ (r : Keyed). (r.0, r.1.op)) before found.0 found.1))
        (ap (λ (r : Keyed). r.1.op) found.2)

-- memory for the items of changes is enough for the rows that the changes make, one for each key
pub room_of_changes : (changes : List model.Change) (rows : List Keyed) → AreAscending rows
    → ((row : Keyed) → Contains rows row → Contains {X = Item} (changed_items changes) (row.0, row.1.op)) → (index : Option Index)
    → HasRoomIfAny (changed_items changes) index → HasRoomIfAny (items_of rows) index
room_of_changes changes rows up made =
    if_any (changed_items changes) (items_of rows)
    (room_for (changed_items changes) rows up (λ row among. (row.1.op, made row among, inl refl)))
