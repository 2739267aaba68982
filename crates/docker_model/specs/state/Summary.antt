-- The summary of a set of files with a horizon, which is the state of an office that knows these
-- files and this horizon. The set is represented by a list in any order.
use Rattle.std.specs.Prelude.{◌≡◌, ℕ, ◌↔◌, List, map, Option, Contains}
use Rattle.docker_model.specs.file.Change.{Key, Change, changes}
use Rattle.docker_model.specs.state.Order.{IsStrictlyAscending, IsAtMost}
use Rattle.docker_model.specs.state.Stamp.{FileStamp, LedgerItem, ledger_item_cmp, file_stamp_of, ledger_item_of, moment_of, IsFloor, IsKept}
use Rattle.docker_model.specs.state.Op.{Entry, entry_cmp, op_of}
use Rattle.docker_model.specs.state.Lapse.{lapse_entry}
use Rattle.docker_model.specs.state.State.{State, AreAscending}

-- the option is the floor of the set of files: the file stamp of the newest full extract in the
-- set, or `None` if the set has no full extract
abbrev pub IsFloorOf : List (List (List ℕ)) → Option FileStamp → Type 0
IsFloorOf files floor = IsFloor (map ledger_item_of files) floor

-- the file is in the set, and isn't older than the floor
pub record IsKeptFile (files : List (List (List ℕ))) (floor : Option FileStamp) (file : List (List ℕ)) : Type 0 where
  pub among : Contains files file
  pub kept : IsKept floor (file_stamp_of file)

-- converts a change in a file to the entry that the change leaves under its key. The entry has the
-- file's stamp, the number of the record, and the op
abbrev pub entry_of : List (List ℕ) → Change → Entry
entry_of file change = record { stamp = record { file = file_stamp_of file; number = change.number }; op = op_of change.act }

-- a change to this key leaves this entry. The change is in a file that belongs to the set and isn't
-- older than the floor
pub record IsEntryOf (files : List (List (List ℕ))) (floor : Option FileStamp) (key : Key) (entry : Entry) : Type 0 where
  pub file : List (List ℕ)
  pub kept : IsKeptFile files floor file
  pub change : Change
  pub among : Contains (changes file) change
  pub key_is : change.key ≡ key
  pub entry_is : entry_of file change ≡ entry

-- `entry` is the greatest entry that a change to this key leaves. The change may be in any file
-- that belongs to the set and isn't older than the floor
pub record IsGreatestEntryOf (files : List (List (List ℕ))) (floor : Option FileStamp) (key : Key) (entry : Entry) : Type 0 where
  pub is : IsEntryOf files floor key entry
  pub greatest : (other : Entry) → IsEntryOf files floor key other → IsAtMost entry_cmp other entry

-- `state` is the summary of the files with a horizon, where 0 means none. Only files that aren't
-- older than the floor count. The ledger has an item for each of these files. For each key the
-- state has the greatest entry that a change in these files leaves. This entry has lapsed if its
-- body ended before the horizon
pub record IsSummary (files : List (List (List ℕ))) (horizon : ℕ) (state : State) : Type 0 where
  pub horizon_is : state.horizon ≡ horizon
  pub floor : Option FileStamp
  pub is_floor : IsFloorOf files floor
  pub ledger_ascends : IsStrictlyAscending ledger_item_cmp state.ledger
  pub ledger : (item : LedgerItem) → Contains state.ledger item ↔ ((file : List (List ℕ)) × IsKeptFile files floor file × (ledger_item_of file ≡ item))
  pub entries_ascend : AreAscending state.entries
  pub entries : (key : Key) (entry : Entry) → Contains state.entries (key, entry)
      ↔ ((greatest : Entry) × IsGreatestEntryOf files floor key greatest × (lapse_entry horizon greatest ≡ entry))

-- no two different files of the set have the same date and time in their headers
abbrev pub HaveDistinctMoments : List (List (List ℕ)) → Type 0
HaveDistinctMoments files =
    (first second : List (List ℕ)) → Contains files first → Contains files second → moment_of first ≡ moment_of second → first ≡ second
