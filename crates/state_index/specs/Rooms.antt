-- The memory that is reserved before an index is made.
use Rattle.std.specs.Prelude.{◌≡◌, ℕ, ◌+◌, ◌<◌, ◌≤◌, ◌^◌, ◌⊎◌, List, [], ◌∷◌, ◌++◌, length, map, Contains, None}
use Rattle.std.specs.Global.{Vec}
use Rattle.std.specs.Vec.{vec_capacity}
use Rattle.docker_model.specs.file.Change as model
use Rattle.docker_model.specs.file.Change.{Key}
use Rattle.docker_model.specs.state.Op.{Op, Entry, op_of, body_of}
use Rattle.docker_model.specs.state.Order.{bytes_cmp, IsStrictlyAscending}
use Rattle.state_index.specs.NamedPlaces.{call_places, link_places}
use Rattle.state_index.specs.declared.index.Index.{Index}
use Rattle.state_index.specs.declared.posting.Posting.{Posting}
use Rattle.state_index.specs.declared.survey.Survey.{Survey}
use Rattle.state_index.specs.Spots.{Places}

-- a row without its stamp: its key and its op
abbrev pub Item : Type 0
Item = Key × Op

-- the rows without their stamps
abbrev pub items_of : List (Key × Entry) → List Item
items_of rows = map (λ (row : Key × Entry). (row.0, row.1.op)) rows

-- the key of each change, with the op that the change leaves under this key
abbrev pub changed_items : List model.Change → List Item
changed_items changes = map (λ (change : model.Change). (change.key, op_of change.act)) changes

-- the places that items name, item by item
abbrev pub places_in : Places → List Item → List (List ℕ)
places_in places [] = []
places_in places (item ∷ items) = places item.0 item.1 ++ places_in places items

-- Says that all places of the first list are in the second list.
abbrev pub Includes : List (List ℕ) → List (List ℕ) → Type 0
Includes few many = (place : List ℕ) → Contains few place → Contains many place

-- Says that each row has the key of some item. The row has the item's op, or an op without a body.
abbrev pub ComeFrom : List Item → List (Key × Entry) → Type 0
ComeFrom items rows = (row : Key × Entry) → Contains rows row
    → (op : Op) × Contains {X = Item} items (row.0, op) × ((row.1.op ≡ op) ⊎ (body_of row.1.op ≡ None))

-- Says that the names have all places of the items, and that there is room for a posting of each
-- place.
pub record HasRoomAt (places : Places) (items : List Item) (names : List (List ℕ)) (postings : Vec Posting) : Type 0 where
  pub all : Includes (places_in places items) names
  pub room : length (places_in places items) ≤ vec_capacity postings

-- Says that an index can be made for these items in the memory of this index, and that it lists
-- their places already.
pub record HasRoomFor (items : List Item) (index : Index) : Type 0 where
  pub named : IsStrictlyAscending bytes_cmp index.places.items
  pub few_places : length index.places.items < 2 ^ 32
  pub few_rows : length items < 2 ^ 32
  pub calls : HasRoomAt call_places items index.places.items index.calls
  pub links : HasRoomAt link_places items index.places.items index.links

-- Says that a survey has listed the places of these items and counted the items and their calls.
-- What it had listed and counted before is still there.
pub record HasGrownBy (items : List Item) (old new : Survey) : Type 0 where
  pub kept : Includes old.names.items new.names.items
  pub calls : Includes (places_in call_places items) new.names.items
  pub links : Includes (places_in link_places items) new.names.items
  pub most_calls : old.calls + length (places_in call_places items) ≤ new.calls
  pub rows : old.rows + length items ≤ new.rows
