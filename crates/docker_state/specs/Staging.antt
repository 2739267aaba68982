-- Defines what a state has received from another state before the commit.
use Rattle.std.specs.Prelude.{◌≡◌, List, ◌++◌, ◌∷◌, [], map, Option, Contains, ◌⊎◌}
use Rattle.std.specs.declared.cmp.Ordering.TheVariants.{Less}
use Rattle.docker_model.specs.file.Change as model
use Rattle.docker_model.specs.state.Stamp as stamps
use Rattle.docker_model.specs.state.Stamp.{IsKept}
use Rattle.docker_model.specs.state.Op as ops
use Rattle.docker_model.specs.state.Op.{key_cmp}
use Rattle.docker_model.specs.state.State.{State}
use Rattle.state_laws.specs.Staging.{IsToStage}
use Rattle.cif_change.specs.declared.key.Key.{Key}
use Rattle.docker_join.specs.declared.stamp.FileStamp.{FileStamp}
use Rattle.docker_join.specs.declared.entry.Entry.{Entry}
use Rattle.docker_join.specs.Meaning.{row_meant, floor_meant}
use Rattle.docker_state.specs.declared.item.LedgerItem.{LedgerItem}
use Rattle.docker_state.specs.Meaning.{item_meant}

-- the floor of both ledgers together, the ledger items received, and the entries that are staged
pub record Staging : Type 0 where
  pub floor : Option stamps.FileStamp
  pub items : List stamps.LedgerItem
  pub staged : List (model.Key × ops.Entry)

-- converts a floor, ledger items and rows of the code to a `Staging` of the definitions
abbrev pub staging_meant : Option FileStamp → List LedgerItem → List (Key × Entry) → Staging
staging_meant floor items rows = record {
  floor = floor_meant floor;
  items = map item_meant items;
  staged = map row_meant rows;
}

-- `staging` with one more staged entry
abbrev pub with_staged : Staging → model.Key → ops.Entry → Staging
with_staged staging key entry = record {
  floor = staging.floor;
  items = staging.items;
  staged = staging.staged ++ (key, entry) ∷ [];
}

-- Says what offering an entry for staging does: an entry that has to be staged is staged, and for
-- any other entry nothing changes.
abbrev pub IsOffered : State → Staging → model.Key → ops.Entry → Staging → Type 0
IsOffered own before key entry after =
    (IsToStage own before.floor key entry × (after ≡ with_staged before key entry))
    ⊎ (¬ IsToStage own before.floor key entry × (after ≡ before))

-- Says that none of these entries has to be staged for our state.
abbrev pub HasNoneToStage : State → Option stamps.FileStamp → List (model.Key × ops.Entry) → Type 0
HasNoneToStage own floor entries =
    (key : model.Key) (entry : ops.Entry) → Contains entries (key, entry) → ¬ IsToStage own floor key entry

-- Says that a key is above the keys of all staged entries.
abbrev pub IsAboveStaged : List (model.Key × ops.Entry) → model.Key → Type 0
IsAboveStaged staged key =
    (other : model.Key × ops.Entry) → Contains staged other → key_cmp other.0 key ≡ Less

-- Says that the ledger has an item, or that the item is below the floor.
abbrev pub HasIfKept : List stamps.LedgerItem → stamps.LedgerItem → Option stamps.FileStamp → Type 0
HasIfKept ledger item floor = IsKept floor item.stamp → Contains ledger item

-- Says that the ledger has each of these items that isn't below the floor.
abbrev pub HasKeptItems : List stamps.LedgerItem → List stamps.LedgerItem → Option stamps.FileStamp → Type 0
HasKeptItems ledger items floor =
    (item : stamps.LedgerItem) → Contains items item → HasIfKept ledger item floor

-- Says that no entry is staged, and that the ledger has each received item that isn't below the
-- floor.
abbrev pub HasNothingNew : List stamps.LedgerItem → Staging → Type 0
HasNothingNew ledger staging =
    (staging.staged ≡ []) × HasKeptItems ledger staging.items staging.floor
