-- Moments, stamps and ledger items with their orders, and the floor.
use Rattle.std.specs.Prelude.{ℕ, List, ◌≡◌, Contains, Option, Some, None, ⊤}
use Rattle.std.specs.declared.cmp.Ordering.{Ordering}
use Rattle.std.specs.Ordering.{ordering_then, nat_cmp}
use Rattle.docker_model.specs.records.Record.{columns, column}
use Rattle.docker_model.specs.records.Date.{date_number_day_first}
use Rattle.docker_model.specs.records.Clock.{minute_of}
use Rattle.docker_model.specs.file.File.{first_record}
use Rattle.docker_model.specs.state.Order.{bytes_cmp, IsAtMost}

-- the date and time in the header of an extract: a day number and a minute of the day
pub record Moment : Type 0 where
  pub day : ℕ
  pub minute : ℕ

-- the stamp of a file: its moment and its current file reference. Of two files, the file with the
-- greater stamp is newer
pub record FileStamp : Type 0 where
  pub moment : Moment
  pub reference : List ℕ

-- the stamp of a change: the stamp of its file, and the number of its record in that file
pub record Stamp : Type 0 where
  pub file : FileStamp
  pub number : ℕ

-- a ledger's item for one file: its file stamp, its update indicator (F or U) and its last file
-- reference
pub record LedgerItem : Type 0 where
  pub stamp : FileStamp
  pub indicator : ℕ
  pub last_reference : List ℕ

-- the order of moments: by day, then by minute
abbrev pub moment_cmp : Moment → Moment → Ordering
moment_cmp a b = ordering_then (nat_cmp a.day b.day) (nat_cmp a.minute b.minute)

-- the order of file stamps: by moment, then by reference
abbrev pub file_stamp_cmp : FileStamp → FileStamp → Ordering
file_stamp_cmp a b = ordering_then (moment_cmp a.moment b.moment) (bytes_cmp a.reference b.reference)

-- the order of stamps: by file stamp, then by record number
abbrev pub stamp_cmp : Stamp → Stamp → Ordering
stamp_cmp a b = ordering_then (file_stamp_cmp a.file b.file) (nat_cmp a.number b.number)

-- the order of ledger items: by file stamp, indicator and last reference
abbrev pub ledger_item_cmp : LedgerItem → LedgerItem → Ordering
ledger_item_cmp a b =
    ordering_then (file_stamp_cmp a.stamp b.stamp)
    (ordering_then (nat_cmp a.indicator b.indicator) (bytes_cmp a.last_reference b.last_reference))

-- the moment of a file: the date and the time in its header
abbrev pub moment_of : List (List ℕ) → Moment
moment_of file = record {
  day = date_number_day_first (columns 23 28 (first_record file));
  minute = minute_of (columns 29 32 (first_record file));
}

-- the file stamp of a file: its moment, and the current reference in its header
abbrev pub file_stamp_of : List (List ℕ) → FileStamp
file_stamp_of file = record { moment = moment_of file; reference = columns 33 39 (first_record file) }

-- the ledger item of a file: its file stamp, and the update indicator and the last reference in its
-- header
abbrev pub ledger_item_of : List (List ℕ) → LedgerItem
ledger_item_of file = record {
  stamp = file_stamp_of file;
  indicator = column 47 (first_record file);
  last_reference = columns 40 46 (first_record file);
}

-- the item is for a full extract: its update indicator is F
abbrev pub IsFull : LedgerItem → Type 0
IsFull item = item.indicator ≡ 70

-- no item is for a full extract
abbrev pub HasNoFull : List LedgerItem → Type 0
HasNoFull items = (item : LedgerItem) → Contains items item → ¬ IsFull item

-- `stamp` is the file stamp of the newest full extract among the items
pub record IsGreatestFull (items : List LedgerItem) (stamp : FileStamp) : Type 0 where
  pub full : LedgerItem
  pub among : Contains items full
  pub is_full : IsFull full
  pub stamped : full.stamp ≡ stamp
  pub greatest : (item : LedgerItem) → Contains items item → IsFull item → IsAtMost file_stamp_cmp item.stamp stamp

-- the option is the floor of the items: the file stamp of the newest full extract among them, or
-- `None` if no item is for a full extract. Files older than the floor don't count
abbrev pub IsFloor : List LedgerItem → Option FileStamp → Type 0
IsFloor items None = HasNoFull items
IsFloor items (Some stamp) = IsGreatestFull items stamp

-- a file with this stamp counts: the file isn't older than the floor, or there is no floor
abbrev pub IsKept : Option FileStamp → FileStamp → Type 0
IsKept None stamp = ⊤
IsKept (Some floor) stamp = IsAtMost file_stamp_cmp floor stamp
