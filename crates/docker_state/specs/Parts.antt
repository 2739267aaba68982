-- The ledger items and entries of a state, while a caller adds them one by one.
use Rattle.std.specs.Prelude.{ℕ, List, length, ◌-◌, slice_get, Option}
use Rattle.std.specs.Option.{option_map}
use Rattle.docker_model.specs.file.Change.{Key}
use Rattle.docker_model.specs.state.Op.{Entry}
use Rattle.docker_model.specs.state.State.{State}

-- the state with this horizon in place of its own
abbrev pub under : ℕ → State → State
under horizon state = record { horizon = horizon; ledger = state.ledger; entries = state.entries }

-- the key of the last entry, or `None` if there are no entries
abbrev pub last_key : List (Key × Entry) → Option Key
last_key entries = option_map (λ (entry : Key × Entry). entry.0) (slice_get entries (length entries - 1))
