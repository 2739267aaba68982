-- The parts of a state's text, in the order in which a reader judges them. For each stage of a
-- reader, the definitions say how many bytes the next part has, and whether the parts before it are
-- good. An item is the mark, the horizon, a count, a ledger item or an entry. Only an entry has
-- several parts.
use Rattle.std.specs.Int.{w32, to_be_bytes}
use Rattle.std.specs.List.{concat}
use Rattle.std.specs.Prelude.{ℕ, List, [], length, ◌∷◌, ◌++◌, ◌==◌, if◌then◌else◌, ◌≡◌, ◌⊎◌, ◌-◌, ◌^◌, ◌<◌, All, ◌≤◌, ⊤}
use Rattle.docker_model.specs.records.Field.{HasNewTransaction}
use Rattle.docker_model.specs.file.File.{first_record, BeginsSchedule, IsSchedule}
use Rattle.docker_model.specs.file.Change.{Key, ScheduleKey, schedule_key, tiploc_key, association_key, schedule_named, schedule_body}
use Rattle.docker_model.specs.state.Order.{IsBelow}
use Rattle.docker_model.specs.state.Stamp.{Stamp, LedgerItem, ledger_item_cmp, file_stamp_cmp, IsFull}
use Rattle.docker_model.specs.state.Op.{key_tag, key_cmp, body_end}
use Rattle.docker_model.specs.state.State.{State, IsGoodKey, IsStampIn, IsLedger}
use Rattle.docker_model.specs.state.StateText.{Format, head_text, mark, ledger_text, entries_text, state_text}
use Rattle.docker_model.specs.state.StateText.{key_bytes, stamp_bytes, IsHorizonOf, IsToldState, TellsHorizon}

-- how far a reader has come in an entry: which part is next, with the values of the parts before it
pub data EntryPart : Type 0 where
  before_tag : EntryPart
  before_key : (tag : ℕ) → EntryPart
  before_stamp : (key : Key) → EntryPart
  before_op : (key : Key) (stamp : Stamp) → EntryPart
  before_body : (key : Key) (stamp : Stamp) → EntryPart
  before_line : (key : ScheduleKey) (stamp : Stamp) (count : ℕ) (lines : List (List ℕ)) → EntryPart

-- how far a reader has come in a state's text: which part is next, with the values of the parts
-- before it. The values are the horizon, the counts, the ledger, the complete entries, and the
-- parts of an incomplete entry
pub data Before : Type 0 where
  before_mark : Before
  before_horizon : Before
  before_ledger_count : (horizon : ℕ) → Before
  before_item : (horizon count : ℕ) (ledger : List LedgerItem) → Before
  before_entry_count : (horizon : ℕ) (ledger : List LedgerItem) → Before
  in_entry : (count : ℕ) (state : State) (part : EntryPart) → Before
  at_end : (state : State) → Before

-- the bytes of all complete items that have been read at this stage
abbrev pub items_before : Format → Before → List ℕ
items_before format before_mark = []
items_before format before_horizon = mark format
items_before format (before_ledger_count horizon) = head_text format horizon
items_before format (before_item horizon count ledger) = ledger_text format horizon count ledger
items_before format (before_entry_count horizon ledger) = ledger_text format horizon (length ledger) ledger
items_before format (in_entry count state part) = entries_text format count state
items_before format (at_end state) = state_text format state

-- the bytes of a key in a state's text: its tag, then its fields
abbrev pub key_text : Key → List ℕ
key_text key = key_tag key ∷ key_bytes key

-- the bytes of an entry that come before its next part
abbrev pub part_text : EntryPart → List ℕ
part_text before_tag = []
part_text (before_key tag) = tag ∷ []
part_text (before_stamp key) = key_text key
part_text (before_op key stamp) = key_text key ++ stamp_bytes stamp
part_text (before_body key stamp) = key_text key ++ stamp_bytes stamp ++ 1 ∷ []
part_text (before_line key stamp count lines) =
    key_text (schedule_key key) ++ stamp_bytes stamp ++ 1 ∷ to_be_bytes w32 count ++ concat lines

-- the bytes of an incomplete item that have been read at this stage. Only an entry can be
-- incomplete, because every other item is one part
abbrev pub parts_before : Before → List ℕ
parts_before (in_entry count state part) = part_text part
parts_before _ = []

-- the bytes that have been read at this stage: first the complete items, then the incomplete item
abbrev pub text_before : Format → Before → List ℕ
text_before format before = items_before format before ++ parts_before before

-- the number of bytes of a key with this tag
abbrev pub key_width : ℕ → ℕ
key_width tag = if tag == 1 then 7 else (if tag == 2 then 23 else 9)

-- how many bytes the body part of an entry with this key has. For a TIPLOC or an association, this
-- part is the whole body. For a schedule, it is only the number of lines, which has four bytes
abbrev pub body_width : Key → ℕ
body_width (tiploc_key code) = 63
body_width (association_key key) = 80
body_width (schedule_key key) = 4

-- the number of bytes of an entry's next part
abbrev pub part_width : EntryPart → ℕ
part_width before_tag = 1
part_width (before_key tag) = key_width tag
part_width (before_stamp key) = 15
part_width (before_op key stamp) = 1
part_width (before_body key stamp) = body_width key
part_width (before_line key stamp count lines) = 80

-- the number of bytes of the next part. At the end of the text the result is 0
abbrev pub width : Before → ℕ
width before_mark = 4
width before_horizon = 2
width (before_ledger_count horizon) = 8
width (before_item horizon count ledger) = 19
width (before_entry_count horizon ledger) = 8
width (in_entry count state part) = part_width part
width (at_end state) = 0

-- this number is the tag of a TIPLOC, an association or a schedule
abbrev pub IsTag : ℕ → Type 0
IsTag tag = (tag ≡ 1) ⊎ (tag ≡ 2) ⊎ (tag ≡ 3)

-- the number can be a schedule's number of lines: it is from 1 to 4,294,967,294
abbrev pub IsLineCount : ℕ → Type 0
IsLineCount count = (0 < count) × (count < 2 ^ 32 - 1)

-- the key is above the keys of all entries before it
abbrev pub IsAboveEntries : State → Key → Type 0
IsAboveEntries state key = All (λ entry. IsBelow key_cmp entry.0 key) state.entries

-- the item is above all items before it
abbrev pub IsAboveItems : List LedgerItem → LedgerItem → Type 0
IsAboveItems ledger item = All (λ earlier. IsBelow ledger_item_cmp earlier item) ledger

-- the item is for a full extract newer than the first item of the ledger. The item would raise the
-- floor above the first item, so a ledger can't contain both items
abbrev pub RaisesFloor : List LedgerItem → LedgerItem → Type 0
RaisesFloor [] item = ⊥
RaisesFloor (first ∷ ledger) item = IsFull item × IsBelow file_stamp_cmp first.stamp item.stamp

-- these lines begin a schedule with this key and the transaction N
pub record AreLinesOf (key : ScheduleKey) (lines : List (List ℕ)) : Type 0 where
  pub begin : BeginsSchedule lines
  pub new : HasNewTransaction (first_record lines)
  pub key_is : schedule_named (first_record lines) ≡ schedule_key key

-- these lines begin a schedule with this key. If there are `count` lines, they are a whole schedule
pub record AreLinesUpTo (key : ScheduleKey) (count : ℕ) (lines : List (List ℕ)) : Type 0 where
  pub lines_of : AreLinesOf key lines
  pub complete : length lines ≡ count → IsSchedule lines

-- the key is good after the entries of this state: it is well formed, and above the keys before it
abbrev pub IsKeyHere : State → Key → Type 0
IsKeyHere state key = IsGoodKey key × IsAboveEntries state key

-- the key and the stamp of an entry are good after the entries of this state
abbrev pub IsStampHere : State → Key → Stamp → Type 0
IsStampHere state key stamp = IsKeyHere state key × IsStampIn state.ledger stamp

-- the schedule didn't end before the state's horizon, according to the end date in its first line
abbrev pub HaveNotToLapse : State → List (List ℕ) → Type 0
HaveNotToLapse state lines = state.horizon ≤ body_end (schedule_body lines)

-- the parts of an entry that come before its next part are good
abbrev pub IsPartHere : State → EntryPart → Type 0
IsPartHere state before_tag = ⊤
IsPartHere state (before_key tag) = IsTag tag
IsPartHere state (before_stamp key) = IsKeyHere state key
IsPartHere state (before_op key stamp) = IsStampHere state key stamp
IsPartHere state (before_body key stamp) = IsStampHere state key stamp
IsPartHere state (before_line key stamp count lines) =
    IsStampHere state (schedule_key key) stamp × IsLineCount count × (length lines < count)
    × ((lines ≡ []) ⊎ (AreLinesOf key lines × HaveNotToLapse state lines))

-- eight bytes can hold this number
abbrev pub IsCount : ℕ → Type 0
IsCount count = count < 2 ^ 64

-- all parts of the text that have been read at this stage are good
abbrev pub AreGood : Format → Before → Type 0
AreGood format before_mark = ⊤
AreGood format before_horizon = TellsHorizon format
AreGood format (before_ledger_count horizon) = IsHorizonOf format horizon
AreGood format (before_item horizon count ledger) = IsHorizonOf format horizon × IsLedger ledger × (length ledger < count) × IsCount count
AreGood format (before_entry_count horizon ledger) = IsHorizonOf format horizon × IsLedger ledger × IsCount (length ledger)
AreGood format (in_entry count state part) =
    IsToldState format state × IsCount (length state.ledger) × (length state.entries < count) × IsCount count × IsPartHere state part
AreGood format (at_end state) = IsToldState format state × IsCount (length state.ledger) × IsCount (length state.entries)
