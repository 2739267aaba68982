-- The parts of a text that were read: the horizon, and a state that has the ledger items and entries.
use Rattle.std.specs.Prelude.{ℕ, List, [], ◌∷◌, ◌++◌, map, Option, Some, None}
use Rattle.docker_model.specs.file.Change.{Key}
use Rattle.docker_model.specs.state.Stamp.{LedgerItem, FileStamp}
use Rattle.docker_model.specs.state.Op.{Entry}
use Rattle.docker_model.specs.state.State.{State}

-- the horizon that was read, or 0 if the text has none
abbrev pub horizon_meant : Option ℕ → ℕ
horizon_meant None = 0
horizon_meant (Some day) = day

-- the file stamps of a ledger
abbrev pub file_stamps : List LedgerItem → List FileStamp
file_stamps items = map (λ (item : LedgerItem). item.stamp) items

-- the state with this item appended to its ledger, and without entries
abbrev pub with_item : State → LedgerItem → State
with_item state item = record { horizon = state.horizon; ledger = state.ledger ++ item ∷ []; entries = [] }

-- the state with this entry appended to its entries
abbrev pub with_row : State → Key × Entry → State
with_row state row = record { horizon = state.horizon; ledger = state.ledger; entries = state.entries ++ row ∷ [] }
