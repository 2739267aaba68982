-- The fault of a text that isn't a file: the first record at fault, and the cause.
use Rattle.std.specs.Prelude.{◌≡◌, ℕ, ◌+◌, ◌<◌, ◌≤◌, ◌≢◌, ◌⊎◌, List, [], ◌∷◌, ◌++◌, length, All, Any, Some, None}
use Rattle.docker_model.specs.records.Record.{basic_schedule, trailer, HasKind, kind_of, leftmost_bad_byte}
use Rattle.docker_model.specs.records.Field.{leftmost_bad_field}
use Rattle.docker_model.specs.file.Journey.{midnights}
use Rattle.docker_model.specs.file.File.{IsFile, BeginsFile}
use Rattle.docker_model.specs.file.Text.{lines_of}

-- the cause of a fault. The columns of a bad byte and of a bad field are counted from 1
pub data FileCause : Type 0 where
  too_many : FileCause
  after_trailer : FileCause
  bad_length : FileCause
  bad_byte : (at : ℕ) → FileCause
  bad_kind : FileCause
  bad_place : FileCause
  bad_field : (at : ℕ) → FileCause
  third_midnight : FileCause
  no_end : FileCause

-- the rank of a cause. If several causes apply to a record, the cause with the lowest rank is
-- reported
abbrev pub cause_rank : FileCause → ℕ
cause_rank too_many = 0
cause_rank after_trailer = 1
cause_rank bad_length = 2
cause_rank (bad_byte at) = 3
cause_rank bad_kind = 4
cause_rank bad_place = 5
cause_rank (bad_field at) = 6
cause_rank third_midnight = 7
cause_rank no_end = 8

-- the record is out of place: no file has a record of this kind directly after these earlier
-- records. For example, a trailer is out of place inside a schedule
abbrev pub IsOutOfPlace : List (List ℕ) → List ℕ → Type 0
IsOutOfPlace earlier line = (next : List ℕ) → kind_of next ≡ kind_of line → ¬ BeginsFile (earlier ++ next ∷ [])

-- these lines are the schedule at the end of the records: the last basic schedule among the
-- records, with all records after it
pub record EndsInSchedule (records lines : List (List ℕ)) : Type 0 where
  pub before : List (List ℕ)
  pub basic : List ℕ
  pub others : List (List ℕ)
  pub whole : records ≡ before ++ lines
  pub schedule : lines ≡ basic ∷ others
  pub kind : HasKind basic_schedule basic
  pub last : All (λ line. ¬ HasKind basic_schedule line) others

-- the last schedule of the earlier records passes midnight at most twice. With this record
-- appended, the schedule passes midnight a third time
abbrev pub HasThirdFall : List (List ℕ) → List ℕ → Type 0
HasThirdFall earlier line =
    (lines : List (List ℕ)) × EndsInSchedule earlier lines × (midnights lines ≤ 2) × (2 < midnights (lines ++ line ∷ []))

-- the cause applies to a record that follows these earlier records, in a file of at most `limit`
-- records. The cause `no_end` never applies to a record
abbrev pub HoldsOf : ℕ → List (List ℕ) → List ℕ → FileCause → Type 0
HoldsOf limit earlier line too_many = limit ≤ length earlier
HoldsOf limit earlier line after_trailer = Any (HasKind trailer) earlier
HoldsOf limit earlier line bad_length = length line ≢ 80
HoldsOf limit earlier line (bad_byte at) = leftmost_bad_byte line ≡ Some at
HoldsOf limit earlier line bad_kind = kind_of line ≡ None
HoldsOf limit earlier line bad_place = IsOutOfPlace earlier line
HoldsOf limit earlier line (bad_field at) = leftmost_bad_field line ≡ Some at
HoldsOf limit earlier line third_midnight = HasThirdFall earlier line
HoldsOf limit earlier line no_end = ⊥

-- `cause` is the cause that is reported for a record: it applies to the record, and no cause of a
-- lower rank does
pub record IsCause (limit : ℕ) (earlier : List (List ℕ)) (line : List ℕ) (cause : FileCause) : Type 0 where
  pub holds : HoldsOf limit earlier line cause
  pub first : (other : FileCause) → cause_rank other < cause_rank cause → ¬ HoldsOf limit earlier line other

-- the fault of a text that isn't a file: the number of the record at fault, counted from 1, and the
-- cause
pub record FileFault : Type 0 where
  pub number : ℕ
  pub cause : FileCause

-- `fault` is the fault of the first record at fault. The records before that record are within the
-- limit and begin a file. With that record appended, the records exceed the limit or no longer
-- begin a file
pub record IsRecordFault (limit : ℕ) (records : List (List ℕ)) (fault : FileFault) : Type 0 where
  pub earlier : List (List ℕ)
  pub line : List ℕ
  pub later : List (List ℕ)
  pub whole : records ≡ earlier ++ line ∷ later
  pub number : fault.number ≡ length earlier + 1
  pub earlier_within : length earlier ≤ limit
  pub earlier_begin : BeginsFile earlier
  pub here : (limit ≤ length earlier) ⊎ (¬ BeginsFile (earlier ++ line ∷ []))
  pub cause : IsCause limit earlier line fault.cause

-- `fault` is the fault `no_end`: no record is at fault, but a file needs more records. The fault
-- has the number of the first missing record
pub record IsUnended (limit : ℕ) (records : List (List ℕ)) (fault : FileFault) : Type 0 where
  pub within : length records ≤ limit
  pub begin : BeginsFile records
  pub unended : ¬ IsFile records
  pub number : fault.number ≡ length records + 1
  pub cause : fault.cause ≡ no_end

-- the text has this fault, if a file may have at most `limit` records
abbrev pub IsFileFault : ℕ → List ℕ → FileFault → Type 0
IsFileFault limit text fault = IsRecordFault limit (lines_of text) fault ⊎ IsUnended limit (lines_of text) fault

-- the text is this file: its lines are the file's records, and the file has at most `limit` records
pub record IsFileText (limit : ℕ) (text : List ℕ) (file : List (List ℕ)) : Type 0 where
  pub lines : lines_of text ≡ file
  pub is : IsFile file
  pub within : length file ≤ limit
