-- Converts ledger items and states from the code's types to the definitions' types.
use Rattle.std.specs.Prelude.{ℕ, List, map}
use Rattle.docker_model.specs.state.Stamp as stamps
use Rattle.docker_model.specs.state.State as states
use Rattle.cif_line.specs.Letter.{extract_letter}
use Rattle.cif_change.specs.declared.key.Key.{Key}
use Rattle.docker_join.specs.declared.entry.Entry.{Entry}
use Rattle.docker_join.specs.Meaning.{row_meant}
use Rattle.docker_state.specs.declared.item.LedgerItem.{LedgerItem}

-- converts a ledger item from the code's type to the definitions' type
abbrev pub item_meant : LedgerItem → stamps.LedgerItem
item_meant item = record {
  stamp = record { moment = record { day = item.day; minute = item.minute }; reference = item.reference };
  indicator = extract_letter item.indicator;
  last_reference = item.last_reference;
}

-- converts a horizon, a ledger and rows of the code to a state of the definitions
abbrev pub state_meant : ℕ → List LedgerItem → List (Key × Entry) → states.State
state_meant horizon ledger rows = record { horizon = horizon; ledger = map item_meant ledger; entries = map row_meant rows }
