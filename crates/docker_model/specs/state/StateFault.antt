-- The fault of bytes that aren't the text of a state in the given format: an offset, which locates
-- the first bad part, and a cause.
use Rattle.std.specs.Prelude.{ℕ, List, ◌≤◌, ◌≡◌, ◌+◌, [], ◌∷◌, ◌++◌, slice_index, ◌≢◌, length, ◌<◌, ◌⊎◌}
use Rattle.std.specs.Int.{w32, from_be_bytes, w16}
use Rattle.docker_model.specs.records.Record.{IsTextOfLength}
use Rattle.docker_model.specs.records.Date.{IsDay}
use Rattle.docker_model.specs.file.Change.{Key, tiploc_key, association_key, schedule_key, association_body}
use Rattle.docker_model.specs.state.Stamp.{LedgerItem}
use Rattle.docker_model.specs.state.Op.{body_end}
use Rattle.docker_model.specs.state.State.{IsGoodItem, State, IsGoodKey, IsAssociationOf, IsStampIn}
use Rattle.docker_model.specs.state.StateText.{Format, key_in, stamp_in, IsOpByte, mark, item_in, state_text}
use Rattle.docker_model.specs.state.StatePart.{RaisesFloor, IsAboveItems, IsAboveEntries, IsLineCount, before_tag, AreLinesUpTo}
use Rattle.docker_model.specs.state.StatePart.{before_stamp, EntryPart, before_op, IsTag, before_line, before_key, before_body}
use Rattle.docker_model.specs.state.StatePart.{HaveNotToLapse, Before, before_entry_count, before_horizon, at_end, in_entry, before_item}
use Rattle.docker_model.specs.state.StatePart.{before_mark, before_ledger_count, AreGood, text_before, items_before, width}

-- the cause of a fault in the text of a state. The cause `bad_horizon` occurs only in DKS2, since
-- DKS1 has no horizon
pub data StateCause : Type 0 where
  bad_mark : StateCause
  bad_item : StateCause
  bad_order : StateCause
  bad_floor : StateCause
  bad_tag : StateCause
  bad_stamp : StateCause
  bad_body : StateCause
  too_short : StateCause
  has_tail : StateCause
  too_long : StateCause
  bad_horizon : StateCause

-- the fault of a text that isn't the text of a state: an offset in bytes, counted from 0, and the
-- cause
pub record StateFault : Type 0 where
  pub at : ℕ
  pub cause : StateCause

-- this cause says why the ledger item that follows these good items is bad. The bad item isn't well
-- formed, isn't above the items before it, or raises the floor above the first item of the ledger
abbrev pub IsBadItem : List LedgerItem → LedgerItem → StateCause → Type 0
IsBadItem ledger item bad_item = ¬ IsGoodItem item
IsBadItem ledger item bad_order = IsGoodItem item × ¬ IsAboveItems ledger item
IsBadItem ledger item bad_floor = IsGoodItem item × IsAboveItems ledger item × RaisesFloor ledger item
IsBadItem ledger item _ = ⊥

-- this cause says why the key that follows the entries of this state is bad: the key isn't well
-- formed, or isn't above the keys before it
abbrev pub IsBadKey : State → Key → StateCause → Type 0
IsBadKey state key bad_body = ¬ IsGoodKey key
IsBadKey state key bad_order = IsGoodKey key × ¬ IsAboveEntries state key
IsBadKey state key _ = ⊥

-- the bytes are a good body part of an entry with this key. The body part of a schedule is only the
-- number of its lines, since each line is a separate part. An association must not have ended
-- before the state's horizon
abbrev pub IsBodyPart : State → Key → List ℕ → Type 0
IsBodyPart state (tiploc_key code) bytes = IsTextOfLength 63 bytes
IsBodyPart state (association_key key) bytes = IsAssociationOf key bytes × (state.horizon ≤ body_end (association_body bytes))
IsBodyPart state (schedule_key key) bytes = IsLineCount (from_be_bytes w32 bytes)

-- this cause says why the next part of an entry is bad. The state has all entries before this
-- entry, and the parts before the bad part are good
abbrev pub IsBadEntryPart : Format → State → EntryPart → List ℕ → StateCause → Type 0
IsBadEntryPart format state before_tag bytes cause = (cause ≡ bad_tag) × ¬ IsTag (slice_index bytes 0)
IsBadEntryPart format state (before_key tag) bytes cause = IsBadKey state (key_in tag bytes) cause
IsBadEntryPart format state (before_stamp key) bytes cause = (cause ≡ bad_stamp) × ¬ IsStampIn state.ledger (stamp_in bytes)
IsBadEntryPart format state (before_op key stamp) bytes cause = (cause ≡ bad_body) × ¬ IsOpByte format (slice_index bytes 0)
IsBadEntryPart format state (before_body key stamp) bytes cause = (cause ≡ bad_body) × ¬ IsBodyPart state key bytes
IsBadEntryPart format state (before_line key stamp count lines) bytes cause =
    (cause ≡ bad_body) × ¬ (AreLinesUpTo key count (lines ++ bytes ∷ []) × HaveNotToLapse state (lines ++ bytes ∷ []))

-- this cause says why the part that follows these good parts is bad. A count by itself is never bad
abbrev pub IsBadPart : Format → Before → List ℕ → StateCause → Type 0
IsBadPart format before_mark bytes cause = (cause ≡ bad_mark) × (bytes ≢ mark format)
IsBadPart format before_horizon bytes cause = (cause ≡ bad_horizon) × ¬ IsDay (from_be_bytes w16 bytes)
IsBadPart format (before_ledger_count horizon) bytes cause = ⊥
IsBadPart format (before_item horizon count ledger) bytes cause = IsBadItem ledger (item_in bytes) cause
IsBadPart format (before_entry_count horizon ledger) bytes cause = ⊥
IsBadPart format (in_entry count state part) bytes cause = IsBadEntryPart format state part bytes cause
IsBadPart format (at_end state) bytes cause = ⊥

-- `fault` is the fault at a bad part that ends within the limit. The fault's offset is the
-- beginning of the item to which the bad part belongs
pub record HasBadPart (format : Format) (limit : ℕ) (text : List ℕ) (fault : StateFault) : Type 0 where
  pub before : Before
  pub good : AreGood format before
  pub bytes : List ℕ
  pub rest : List ℕ
  pub whole : text ≡ text_before format before ++ bytes ++ rest
  pub size : length bytes ≡ width before
  pub below_limit : length (text_before format before) + width before ≤ limit
  pub bad : IsBadPart format before bytes fault.cause
  pub item_at : fault.at ≡ length (items_before format before)

-- `fault` is the fault `too_long`: the next part would go past the limit, and the text is longer
-- than the limit. The fault's offset is the limit
pub record IsLong (format : Format) (limit : ℕ) (text : List ℕ) (fault : StateFault) : Type 0 where
  pub before : Before
  pub good : AreGood format before
  pub rest : List ℕ
  pub whole : text ≡ text_before format before ++ rest
  pub reaches : length (text_before format before) ≤ limit
  pub needs : limit < length (text_before format before) + width before
  pub there : limit < length text
  pub cause : fault.cause ≡ too_long
  pub limit_at : fault.at ≡ limit

-- `fault` is the fault `too_short`: the text ends before the next part is complete. The fault's
-- offset is the beginning of the item to which the incomplete part belongs
pub record IsShort (format : Format) (limit : ℕ) (text : List ℕ) (fault : StateFault) : Type 0 where
  pub before : Before
  pub good : AreGood format before
  pub rest : List ℕ
  pub whole : text ≡ text_before format before ++ rest
  pub ends : length rest < width before
  pub within : length text ≤ limit
  pub cause : fault.cause ≡ too_short
  pub item_at : fault.at ≡ length (items_before format before)

-- `fault` is the fault `has_tail`: more bytes follow a complete state. The fault's offset is the
-- beginning of these bytes
pub record HasTail (format : Format) (limit : ℕ) (text : List ℕ) (fault : StateFault) : Type 0 where
  pub state : State
  pub valid : AreGood format (at_end state)
  pub next : ℕ
  pub rest : List ℕ
  pub whole : text ≡ state_text format state ++ next ∷ rest
  pub within : length (state_text format state) ≤ limit
  pub cause : fault.cause ≡ has_tail
  pub end_at : fault.at ≡ length (state_text format state)

-- the text, read as a state in this format with a limit of `limit` bytes, has this fault
abbrev pub IsStateFault : Format → ℕ → List ℕ → StateFault → Type 0
IsStateFault format limit text fault =
    HasBadPart format limit text fault ⊎ IsLong format limit text fault ⊎ IsShort format limit text fault ⊎ HasTail format limit text fault

-- the text is the text of this valid state in this format, and has at most `limit` bytes
pub record IsStateText (format : Format) (limit : ℕ) (text : List ℕ) (state : State) : Type 0 where
  pub valid : AreGood format (at_end state)
  pub is : text ≡ state_text format state
  pub within : length text ≤ limit
