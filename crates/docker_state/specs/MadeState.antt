-- The state that the changes of one file make.
use Rattle.std.specs.Prelude.{◌≡◌, ◌↔◌, List, [], ◌∷◌, map, Contains}
use Rattle.docker_model.specs.file.Change as model
use Rattle.docker_model.specs.state.Stamp as stamps
use Rattle.docker_model.specs.state.Op as ops
use Rattle.docker_model.specs.state.Op.{op_of}
use Rattle.docker_model.specs.state.State.{State, AreAscending, IsGreatestAmong, IsValid}
use Rattle.docker_join.specs.Records.{HasRecords}
use Rattle.docker_state.specs.Rows.{made_by}

-- Says that a state has exactly one ledger item and, for each key, the greatest entry that the
-- changes of the item's file make.
pub record IsMadeState (item : stamps.LedgerItem) (changes : List model.Change) (state : State) : Type 0 where
  pub horizon : state.horizon ≡ 0
  pub ledger : state.ledger ≡ item ∷ []
  pub ascending : AreAscending state.entries
  pub entries : (key : model.Key) (entry : ops.Entry) → Contains state.entries (key, entry)
      ↔ IsGreatestAmong (map (made_by item.stamp) changes) key entry

-- Says that any state that the changes make is valid.
abbrev pub MakeValid : stamps.LedgerItem → List model.Change → Type 0
MakeValid item changes = (state : State) → IsMadeState item changes state → IsValid state

-- Says that the bodies put by the changes consist of records.
abbrev pub HaveRecords : List model.Change → Type 0
HaveRecords changes = (change : model.Change) → Contains changes change → HasRecords (op_of change.act)
