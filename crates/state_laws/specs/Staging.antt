-- The steps in which a state is received from a stream. The entries of the received state are
-- offered one by one to the receiving office. An offered entry that the commit will put into the
-- office's state is staged, which means that it is set aside. At the end all staged entries are
-- committed together.
use Rattle.std.specs.Prelude.{◌≡◌, ◌↔◌, ◌⊎◌, List, ◌++◌, Option, Some, None, Contains, ⊤}
use Rattle.docker_model.specs.file.Change.{Key}
use Rattle.docker_model.specs.state.Order.{IsStrictlyAscending, IsBelow}
use Rattle.docker_model.specs.state.Stamp.{FileStamp, LedgerItem, ledger_item_cmp, IsFloor, IsKept}
use Rattle.docker_model.specs.state.Op.{Entry, entry_cmp}
use Rattle.docker_model.specs.state.Lapse.{lapse_entry}
use Rattle.docker_model.specs.state.State.{State, AreAscending}

-- no entry in the list has the key
abbrev pub HasNoEntryOf : List (Key × Entry) → Key → Type 0
HasNoEntryOf entries key = (entry : Entry) → ¬ Contains entries (key, entry)

-- the offered entry is to be staged: the entry isn't below the floor of the two ledgers together.
-- If the state has an entry for the same key, the offered entry is greater than that entry
pub record IsToStage (own : State) (floor : Option FileStamp) (key : Key) (entry : Entry) : Type 0 where
  pub kept : IsKept floor entry.stamp.file
  pub greater : (other : Entry) → Contains own.entries (key, other) → IsBelow entry_cmp other entry

-- the entry is greater than the other entry, or the other entry is `None`
abbrev pub IsGreaterThan : Option Entry → Entry → Type 0
IsGreaterThan None entry = ⊤
IsGreaterThan (Some mine) entry = IsBelow entry_cmp mine entry

-- `staged` is the list of staged entries: the offered entries that are to be staged, in key order
pub record IsStaged (own : State) (floor : Option FileStamp) (offered staged : List (Key × Entry)) : Type 0 where
  pub ascending : AreAscending staged
  pub members : (key : Key) (entry : Entry) → Contains staged (key, entry) ↔ (Contains offered (key, entry) × IsToStage own floor key entry)

-- before entries lapse, the state after the commit has this entry. Either the entry is staged, or
-- it is an entry of the state before the commit. In the second case it isn't below the floor, and
-- its key has no staged entry
abbrev pub IsPutIn : State → List (Key × Entry) → Option FileStamp → Key → Entry → Type 0
IsPutIn own staged floor key entry =
    Contains staged (key, entry) ⊎ (Contains own.entries (key, entry) × IsKept floor entry.stamp.file × HasNoEntryOf staged key)

-- `after` is the state after a commit. The commit leaves the horizon unchanged. The new ledger is
-- the union of the old ledger and the received items, without the items below the floor of the
-- union. Each key with a staged entry has that entry. A key without a staged entry has the same
-- entry as before the commit, unless that entry is below the floor. Each entry whose body ended
-- before the horizon has lapsed
pub record IsCommit (own : State) (items : List LedgerItem) (staged : List (Key × Entry)) (after : State) : Type 0 where
  pub horizon : after.horizon ≡ own.horizon
  pub floor : Option FileStamp
  pub is_floor : IsFloor (own.ledger ++ items) floor
  pub ledger_ascends : IsStrictlyAscending ledger_item_cmp after.ledger
  pub ledger : (item : LedgerItem) → Contains after.ledger item ↔ (Contains (own.ledger ++ items) item × IsKept floor item.stamp)
  pub entries_ascend : AreAscending after.entries
  pub entries : (key : Key) (entry : Entry) → Contains after.entries (key, entry)
      ↔ ((before : Entry) × IsPutIn own staged floor key before × (lapse_entry after.horizon before ≡ entry))

-- the state with these ledger items and entries, without a horizon
abbrev pub staged_state : List LedgerItem → List (Key × Entry) → State
staged_state items staged = record { horizon = 0; ledger = items; entries = staged }
