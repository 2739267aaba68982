-- Defines what a state has received from another state's text.
use Rattle.std.specs.Prelude.{◌≡◌, List, ◌++◌, [], length, map, Option, Some, None}
use Rattle.std.specs.Option.{option_map}
use Rattle.docker_model.specs.file.Change as model
use Rattle.docker_model.specs.state.Op as ops
use Rattle.docker_model.specs.state.Stamp as stamps
use Rattle.docker_model.specs.state.Stamp.{IsFloor}
use Rattle.docker_model.specs.state.State.{State, IsLedger, IsValid}
use Rattle.state_laws.specs.Staging.{IsStaged}
use Rattle.cif_change.specs.Meaning.{key_meant}
use Rattle.docker_state.specs.declared.item.LedgerItem.{LedgerItem}
use Rattle.docker_state.specs.Meaning.{item_meant}
use Rattle.docker_state.specs.Parts.{last_key}
use Rattle.docker_state.specs.Staging.{Staging}
use Rattle.state_text.specs.declared.receiving.Receiving.{Receiving}

-- the state with these ledger items and entries, and without a horizon
abbrev pub given_state : List stamps.LedgerItem → List (model.Key × ops.Entry) → State
given_state items entries = record { horizon = 0; ledger = items; entries = entries }

-- the ledger items that were received. Once the staging has begun, they are in the staging
abbrev pub items_of : List LedgerItem → Option Staging → List stamps.LedgerItem
items_of items None = map item_meant items
items_of items (Some staging) = staging.items

-- the state with the ledger items and entries that were given, and without a horizon
abbrev pub given_of : {R : Type 0} → Receiving R → State
given_of it = given_state (items_of it.items.items it.staging) it.given.entries

-- says that the staging is correct. Its floor is the floor of the receiving state's ledger and the
-- received ledger items together. A given entry is staged if and only if the receiving state has
-- to take it over
pub record IsStagedOf (own : State) (staging : Staging) (entries : List (model.Key × ops.Entry)) : Type 0 where
  pub floor : IsFloor (own.ledger ++ staging.items) staging.floor
  pub staged : IsStaged own staging.floor entries staging.staged

-- says that the receiving state is `own` and is valid, and that the given ledger items are a
-- ledger. `it` has the last key and the number of the given entries. If `it` has a staging, the
-- staging is correct; otherwise no entry was given
pub record IsReceiving {R : Type 0} (own : State) (it : Receiving R) : Type 0 where
  pub own_is : it.own ≡ own
  pub valid : IsValid it.own
  pub ledger : IsLedger (given_of it).ledger
  pub last : option_map key_meant it.last ≡ last_key it.given.entries
  pub count : it.count ≡ length it.given.entries
  pub none : it.staging ≡ None → it.given.entries ≡ []
  pub some : (staging : Staging) → it.staging ≡ Some staging → IsStagedOf it.own staging it.given.entries
