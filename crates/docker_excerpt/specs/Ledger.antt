-- The ledger of a state whose parts are taken one after the other.
use Rattle.std.specs.Prelude.{◌≡◌, ℕ, List, [], length, Option}
use Rattle.std.specs.Option.{option_map}
use Rattle.docker_model.specs.file.Change as model
use Rattle.docker_model.specs.state.Op.{Entry}
use Rattle.docker_model.specs.state.State.{State, IsValid}
use Rattle.cif_change.specs.declared.key.Key.{Key}
use Rattle.cif_change.specs.Meaning.{key_meant}
use Rattle.docker_state.specs.Parts.{last_key}
use Rattle.docker_excerpt.specs.Values.{with_entries}

-- says that `parts` is the ledger of a state with these entries. `parts` itself has no entries. Its
-- ledger and the entries together form a valid state without a horizon. `last` is the key of the
-- last entry, and `count` is the number of entries
pub record IsLedgerOf (parts : State) (last : Option Key) (count : ℕ) (entries : List (model.Key × Entry)) : Type 0 where
  pub valid : IsValid (with_entries parts entries)
  pub plain : parts.horizon ≡ 0
  pub alone : parts.entries ≡ []
  pub last_is : option_map key_meant last ≡ last_key entries
  pub count_is : count ≡ length entries
