-- States that may have an index of their rows.
use Rattle.std.specs.Prelude.{ℕ, List, map, Option, IfSome}
use Rattle.docker_model.specs.file.Change as model
use Rattle.docker_model.specs.state.Op as ops
use Rattle.docker_model.specs.state.State.{IsValid}
use Rattle.cif_change.specs.declared.key.Key.{Key}
use Rattle.docker_join.specs.declared.entry.Entry.{Entry}
use Rattle.docker_join.specs.Meaning.{row_meant}
use Rattle.state_index.specs.Rooms.{Item, HasRoomFor, items_of}
use Rattle.state_index.specs.declared.index.Index.{Index}
use Rattle.state_index.specs.Spots.{IsIndexOf}
use Rattle.docker_state.specs.declared.item.LedgerItem.{LedgerItem}
use Rattle.docker_state.specs.Meaning.{state_meant}

-- Says that this is the index of these rows, or that there is no index.
abbrev pub IsIndexIfAny : List (model.Key × ops.Entry) → Option Index → Type 0
IsIndexIfAny rows index = IfSome index (IsIndexOf rows)

-- Says that an index can be made for these rows, without their stamps, in the memory of this index, or that there is no index.
abbrev pub HasRoomIfAny : List Item → Option Index → Type 0
HasRoomIfAny items index = IfSome index (HasRoomFor items)

-- Says that the state with this horizon, ledger and rows is valid. Says also that this is the index
-- of the rows, which can be made again in its own memory, or that there is no index.
pub record IsIndexed (horizon : ℕ) (ledger : List LedgerItem) (rows : List (Key × Entry)) (index : Option Index) : Type 0 where
  pub valid : IsValid (state_meant horizon ledger rows)
  pub indexed : IsIndexIfAny (map row_meant rows) index
  pub room : HasRoomIfAny (items_of (map row_meant rows)) index
