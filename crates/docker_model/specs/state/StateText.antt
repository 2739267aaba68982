-- The bytes of a state's text, in two formats. The format DKS1 has no horizon, and DKS2 has a
-- horizon after its mark. All numbers are big endian.
use Rattle.std.specs.Prelude.{ℕ, List, codes, [], ◌++◌, ◌∷◌, length, slice_range, slice_index, ◌==◌, if◌then◌else◌, ⊤, ◌≡◌, ◌⊎◌, All}
use Rattle.std.specs.List.{concat, flat_map}
use Rattle.std.specs.Int.{w16, to_be_bytes, w32, w64, from_be_bytes}
use Rattle.docker_model.specs.records.Date.{IsDay}
use Rattle.docker_model.specs.file.Change.{Key, tiploc_key, association_key, schedule_key, Body, tiploc_body, association_body, schedule_body}
use Rattle.docker_model.specs.state.Stamp.{FileStamp, LedgerItem, Stamp}
use Rattle.docker_model.specs.state.Op.{Op, deleted, lapsed, put_with, Entry, key_tag}
use Rattle.docker_model.specs.state.State.{State, IsValid}

-- the two formats, named after their marks
pub data Format : Type 0 where
  dks_1 : Format
  dks_2 : Format

-- the mark of a format, which is the first four bytes of a state's text
abbrev pub mark : Format → List ℕ
mark dks_1 = codes "DKS1"
mark dks_2 = codes "DKS2"

-- the two bytes of the horizon, or no bytes if the format has no horizon
abbrev pub horizon_bytes : Format → ℕ → List ℕ
horizon_bytes dks_1 horizon = []
horizon_bytes dks_2 horizon = to_be_bytes w16 horizon

-- the head of a state's text: its mark and its horizon
abbrev pub head_text : Format → ℕ → List ℕ
head_text format horizon = mark format ++ horizon_bytes format horizon

-- converts a file stamp to its 11 bytes: day, minute and current reference
abbrev pub file_stamp_bytes : FileStamp → List ℕ
file_stamp_bytes stamp = to_be_bytes w16 stamp.moment.day ++ to_be_bytes w16 stamp.moment.minute ++ stamp.reference

-- converts a ledger item to its 19 bytes: file stamp, update indicator and last reference
abbrev pub item_bytes : LedgerItem → List ℕ
item_bytes item = file_stamp_bytes item.stamp ++ item.indicator ∷ item.last_reference

-- converts a key to its bytes, without the tag: 7 bytes for a TIPLOC, 23 for an association, 9 for
-- a schedule
abbrev pub key_bytes : Key → List ℕ
key_bytes (tiploc_key code) = code
key_bytes (association_key key) =
    key.base ++ key.associated ++ to_be_bytes w16 key.start ++ key.location ++ key.suffix ∷ key.indicator ∷ []
key_bytes (schedule_key key) = key.uid ++ to_be_bytes w16 key.runs_from ++ key.indicator ∷ []

-- converts a stamp to its 15 bytes: the file stamp and the record number
abbrev pub stamp_bytes : Stamp → List ℕ
stamp_bytes stamp = file_stamp_bytes stamp.file ++ to_be_bytes w32 stamp.number

-- converts a body to its bytes. The bytes of a schedule begin with the number of its lines
abbrev pub put_bytes : Body → List ℕ
put_bytes (tiploc_body bytes) = bytes
put_bytes (association_body line) = line
put_bytes (schedule_body lines) = to_be_bytes w32 (length lines) ++ concat lines

-- converts an op to its bytes: 0 for deleted, 2 for lapsed, or 1 followed by the body of a put
abbrev pub op_bytes : Op → List ℕ
op_bytes deleted = 0 ∷ []
op_bytes lapsed = 2 ∷ []
op_bytes (put_with body) = 1 ∷ put_bytes body

-- converts an entry to its bytes: the tag, the key, the stamp and the op
abbrev pub entry_bytes : Key × Entry → List ℕ
entry_bytes entry = key_tag entry.0 ∷ key_bytes entry.0 ++ stamp_bytes entry.1.stamp ++ op_bytes entry.1.op

-- the beginning of a state's text, up to and including these ledger items: the head, the number
-- `count` of all items, and these items
abbrev pub ledger_text : Format → ℕ → ℕ → List LedgerItem → List ℕ
ledger_text format horizon count ledger = head_text format horizon ++ to_be_bytes w64 count ++ flat_map item_bytes ledger

-- the beginning of a state's text, up to and including the entries of this state. This text has the
-- head, the whole ledger with its number of items, the number `count` of all entries, and these
-- entries
abbrev pub entries_text : Format → ℕ → State → List ℕ
entries_text format count state =
    ledger_text format state.horizon (length state.ledger) state.ledger ++ to_be_bytes w64 count ++ flat_map entry_bytes state.entries

-- converts a state to its whole text in this format
abbrev pub state_text : Format → State → List ℕ
state_text format state = entries_text format (length state.entries) state

-- converts 11 bytes to the file stamp that they encode
abbrev pub file_stamp_in : List ℕ → FileStamp
file_stamp_in bytes = record {
  moment = record { day = from_be_bytes w16 (slice_range bytes 0 2); minute = from_be_bytes w16 (slice_range bytes 2 4) };
  reference = slice_range bytes 4 11;
}

-- converts 19 bytes to the ledger item that they encode
abbrev pub item_in : List ℕ → LedgerItem
item_in bytes = record { stamp = file_stamp_in bytes; indicator = slice_index bytes 11; last_reference = slice_range bytes 12 19 }

-- converts 23 bytes to the association key that they encode
abbrev pub association_key_in : List ℕ → Key
association_key_in bytes = association_key (record {
  base = slice_range bytes 0 6;
  associated = slice_range bytes 6 12;
  start = from_be_bytes w16 (slice_range bytes 12 14);
  location = slice_range bytes 14 21;
  suffix = slice_index bytes 21;
  indicator = slice_index bytes 22;
})

-- converts 9 bytes to the schedule key that they encode
abbrev pub schedule_key_in : List ℕ → Key
schedule_key_in bytes = schedule_key (record {
  uid = slice_range bytes 0 6;
  runs_from = from_be_bytes w16 (slice_range bytes 6 8);
  indicator = slice_index bytes 8;
})

-- converts bytes to the key that they encode: 7 bytes for tag 1, 23 for tag 2, 9 for tag 3
abbrev pub key_in : ℕ → List ℕ → Key
key_in tag bytes = if tag == 1 then tiploc_key bytes else (if tag == 2 then association_key_in bytes else schedule_key_in bytes)

-- converts 15 bytes to the stamp that they encode
abbrev pub stamp_in : List ℕ → Stamp
stamp_in bytes = record { file = file_stamp_in bytes; number = from_be_bytes w32 (slice_range bytes 11 15) }

-- the format has a horizon: it is DKS2
abbrev pub TellsHorizon : Format → Type 0
TellsHorizon dks_1 = ⊥
TellsHorizon dks_2 = ⊤

-- a state in this format may have this horizon: a day number in DKS2, and only 0 in DKS1
abbrev pub IsHorizonOf : Format → ℕ → Type 0
IsHorizonOf dks_1 horizon = horizon ≡ 0
IsHorizonOf dks_2 horizon = IsDay horizon

-- an entry in this format may have this op. In DKS1 no op is `lapsed`
abbrev pub TellsOp : Format → Op → Type 0
TellsOp dks_1 lapsed = ⊥
TellsOp _ _ = ⊤

-- the op of an entry in this format may begin with this byte. The byte is 0 for a deletion and 1
-- for a put. In DKS2 it may also be 2, for a lapse
abbrev pub IsOpByte : Format → ℕ → Type 0
IsOpByte dks_1 byte = (byte ≡ 0) ⊎ (byte ≡ 1)
IsOpByte dks_2 byte = (byte ≡ 0) ⊎ (byte ≡ 1) ⊎ (byte ≡ 2)

-- the state is valid, and can be written in this format
pub record IsToldState (format : Format) (state : State) : Type 0 where
  pub valid : IsValid state
  pub horizon : IsHorizonOf format state.horizon
  pub ops : All (λ (entry : Key × Entry). TellsOp format entry.1.op) state.entries
