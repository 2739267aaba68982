-- States, the conditions on a valid state, and the join of two states.
use Rattle.std.specs.Prelude.{ℕ, List, ◌≡◌, ◌<◌, ◌⊎◌, IsTrue, ◌-◌, ◌^◌, length, ⊤, Option, All, ◌≤◌, map, Contains, Some, option_and_then, find, max, ◌↔◌, ◌++◌}
use Rattle.std.specs.Ordering.{on, is_eq}
use Rattle.docker_model.specs.records.Record.{IsTextOfLength, is_printable, association, HasKind, IsRecord}
use Rattle.docker_model.specs.records.Date.{IsDay}
use Rattle.docker_model.specs.records.Field.{IsTiploc, IsStpLetter, HasGoodFields, HasNewTransaction}
use Rattle.docker_model.specs.file.File.{IsSchedule, first_record}
use Rattle.docker_model.specs.file.Change.{Key, AssociationKey, ScheduleKey, tiploc_key, association_key, schedule_key}
use Rattle.docker_model.specs.file.Change.{association_named, schedule_named, Body, tiploc_body, association_body, schedule_body}
use Rattle.docker_model.specs.state.Order.{IsStrictlyAscending, IsAtMost}
use Rattle.docker_model.specs.state.Stamp.{LedgerItem, FileStamp, ledger_item_cmp, IsFloor, IsKept, Stamp}
use Rattle.docker_model.specs.state.Op.{Entry, Op, deleted, lapsed, put_with, key_cmp, body_of, entry_cmp}
use Rattle.docker_model.specs.state.Table.{Table}
use Rattle.docker_model.specs.state.Lapse.{HasNotToLapse, lapse_entries, lapse_entry}

-- a state, which is all that an office knows. The horizon 0 means that there is no horizon. The
-- ledger lists the known files, and `entries` has each key with its entry
pub record State : Type 0 where
  pub horizon : ℕ
  pub ledger : List LedgerItem
  pub entries : List (Key × Entry)

-- `item` can be the ledger item of a file: its day and minute are in range, and its references and
-- indicator are well formed
pub record IsGoodItem (item : LedgerItem) : Type 0 where
  pub day : IsDay item.stamp.moment.day
  pub minute : item.stamp.moment.minute < 1440
  pub reference : IsTextOfLength 7 item.stamp.reference
  pub indicator : (item.indicator ≡ 70) ⊎ (item.indicator ≡ 85)
  pub last_reference : IsTextOfLength 7 item.last_reference

-- `key` can be the key of an association record: each field of the key is well formed
pub record IsGoodAssociationKey (key : AssociationKey) : Type 0 where
  pub base : IsTextOfLength 6 key.base
  pub associated : IsTextOfLength 6 key.associated
  pub start : IsDay key.start
  pub location : IsTiploc key.location
  pub suffix : IsTrue (is_printable key.suffix)
  pub indicator : IsStpLetter key.indicator

-- `key` can be the key of a basic schedule: each field of the key is well formed
pub record IsGoodScheduleKey (key : ScheduleKey) : Type 0 where
  pub uid : IsTextOfLength 6 key.uid
  pub runs_from : IsDay key.runs_from
  pub indicator : IsStpLetter key.indicator

-- the key can be the key of some record: each field of the key is well formed
abbrev pub IsGoodKey : Key → Type 0
IsGoodKey (tiploc_key code) = IsTiploc code
IsGoodKey (association_key key) = IsGoodAssociationKey key
IsGoodKey (schedule_key key) = IsGoodScheduleKey key

-- the record is an association with this key, with good fields and the transaction N
pub record IsAssociationOf (key : AssociationKey) (line : List ℕ) : Type 0 where
  pub is_record : IsRecord line
  pub kind : HasKind association line
  pub fields : HasGoodFields line
  pub new : HasNewTransaction line
  pub key_is : association_named line ≡ association_key key

-- these records are a schedule with this key and the transaction N. There are at most 4,294,967,294
-- records
pub record IsScheduleOf (key : ScheduleKey) (lines : List (List ℕ)) : Type 0 where
  pub schedule : IsSchedule lines
  pub few : length lines < 2 ^ 32 - 1
  pub new : HasNewTransaction (first_record lines)
  pub key_is : schedule_named (first_record lines) ≡ schedule_key key

-- the body is well formed and belongs to this key
abbrev pub IsBodyOf : Key → Body → Type 0
IsBodyOf (tiploc_key code) (tiploc_body bytes) = IsTextOfLength 63 bytes
IsBodyOf (association_key key) (association_body line) = IsAssociationOf key line
IsBodyOf (schedule_key key) (schedule_body lines) = IsScheduleOf key lines
IsBodyOf _ _ = ⊥

-- an entry for this key may have this op: if the op is a put, its body is well formed and belongs
-- to the key
abbrev pub IsOpOf : Key → Op → Type 0
IsOpOf key deleted = ⊤
IsOpOf key lapsed = ⊤
IsOpOf key (put_with body) = IsBodyOf key body

-- the ledger is well formed: its items are strictly ascending, each can be the item of a file, and
-- none is below the ledger's floor
pub record IsLedger (ledger : List LedgerItem) : Type 0 where
  pub each : All IsGoodItem ledger
  pub ascending : IsStrictlyAscending ledger_item_cmp ledger
  pub floor : Option FileStamp
  pub is_floor : IsFloor ledger floor
  pub kept : All (λ item. IsKept floor item.stamp) ledger

-- the stamp's file is in the ledger, and the stamp's record number is one that a change can have:
-- from 2 to 4,294,967,294
pub record IsStampIn (ledger : List LedgerItem) (stamp : Stamp) : Type 0 where
  pub in_ledger : Contains (map (λ (item : LedgerItem). item.stamp) ledger) stamp.file
  pub low : 2 ≤ stamp.number
  pub high : stamp.number < 2 ^ 32 - 1

-- the key and its entry are well formed, and the file of the entry's stamp is in the ledger
pub record IsGoodEntry (ledger : List LedgerItem) (entry : Key × Entry) : Type 0 where
  pub key : IsGoodKey entry.0
  pub stamp : IsStampIn ledger entry.1.stamp
  pub op : IsOpOf entry.0 entry.1.op

-- the entries are in strictly ascending order of their keys
abbrev pub AreAscending : List (Key × Entry) → Type 0
AreAscending entries = IsStrictlyAscending (on (λ (entry : Key × Entry). entry.0) key_cmp) entries

-- a state with this ledger may have these entries: each entry is well formed, and the entries are
-- strictly ascending by key
abbrev pub AreEntries : List LedgerItem → List (Key × Entry) → Type 0
AreEntries ledger entries = All (IsGoodEntry ledger) entries × AreAscending entries

-- every entry that should have lapsed has lapsed: no put has a body that ended before the horizon
abbrev pub HaveLapsed : ℕ → List (Key × Entry) → Type 0
HaveLapsed horizon entries = All (λ (entry : Key × Entry). HasNotToLapse horizon entry.1.op) entries

-- the state is valid: its horizon is a day number, its ledger and entries are well formed, and
-- every entry that should have lapsed has lapsed
pub record IsValid (state : State) : Type 0 where
  pub horizon : IsDay state.horizon
  pub ledger : IsLedger state.ledger
  pub entries : AreEntries state.ledger state.entries
  pub have_lapsed : HaveLapsed state.horizon state.entries

-- the entry for a key in a state, or `None` if the state has no entry for the key
abbrev pub entry_at : State → Key → Option Entry
entry_at state key = option_and_then (λ (entry : Key × Entry). Some entry.1) (find (λ entry. is_eq (key_cmp entry.0 key)) state.entries)

-- the live table of a state: the body under each key whose entry is a put. A key has no body if its
-- entry is a deletion or a lapse, or if it has no entry
abbrev pub live_table : State → Key → Option Body
live_table state key = option_and_then (λ (entry : Entry). body_of entry.op) (entry_at state key)

-- every body in the table is well formed and belongs to its key. The live table of a valid state
-- has this property
abbrev pub HasGoodBodies : Table → Type 0
HasGoodBodies live = (key : Key) (body : Body) → live key ≡ Some body → IsBodyOf key body

-- the state with its horizon replaced by this horizon. Each entry whose body ended before this
-- horizon has lapsed
abbrev pub lapse_state : ℕ → State → State
lapse_state horizon state = record { horizon = horizon; ledger = state.ledger; entries = lapse_entries horizon state.entries }

-- the state after this horizon is set. Its horizon is the greater of the old and the new horizon,
-- and each entry whose body ended before that horizon has lapsed
abbrev pub raise_horizon : ℕ → State → State
raise_horizon horizon state = lapse_state (max state.horizon horizon) state

-- `entry` is the greatest of all entries that the list has for this key
pub record IsGreatestAmong (entries : List (Key × Entry)) (key : Key) (entry : Entry) : Type 0 where
  pub among : Contains entries (key, entry)
  pub greatest : (other : Entry) → Contains entries (key, other) → IsAtMost entry_cmp other entry

-- `joined` is the join of two states: the result of merging one into the other. The join's ledger
-- is the union of both ledgers, and for each key the join has the greater of the two entries.
-- Ledger items and entries below the floor of the union are left out. The join's horizon is the
-- greater of the two horizons, and each entry whose body ended before that horizon has lapsed
pub record IsJoin (first second joined : State) : Type 0 where
  pub horizon : joined.horizon ≡ max first.horizon second.horizon
  pub floor : Option FileStamp
  pub is_floor : IsFloor (first.ledger ++ second.ledger) floor
  pub ledger_ascends : IsStrictlyAscending ledger_item_cmp joined.ledger
  pub ledger : (item : LedgerItem) → Contains joined.ledger item ↔ (Contains (first.ledger ++ second.ledger) item × IsKept floor item.stamp)
  pub entries_ascend : AreAscending joined.entries
  pub entries : (key : Key) (entry : Entry) → Contains joined.entries (key, entry)
      ↔ ((greatest : Entry) × IsGreatestAmong (first.entries ++ second.entries) key greatest × IsKept floor greatest.stamp.file
      × (lapse_entry joined.horizon greatest ≡ entry))
