-- The changes of a file: a change puts a body under a key or deletes a key.
use Rattle.std.specs.Prelude.{ℕ, List, Bool, ◌||◌, take_while, if◌then◌else◌, [], ◌∷◌, Option, Some, map, ◌+◌, ◌++◌}
use Rattle.std.specs.Str.{bytes_eq}
use Rattle.docker_model.specs.records.Record.{columns, column, kind_of, Kind, tiploc_insert, tiploc_amend, tiploc_delete, association, basic_schedule}
use Rattle.docker_model.specs.records.Date.{date_number}
use Rattle.docker_model.specs.records.Clock.{is_blank}
use Rattle.docker_model.specs.records.Field.{is_deletion, as_new}
use Rattle.docker_model.specs.file.File.{follows_basic}

-- the key of an association. `base` and `associated` are the UIDs of the two trains, and `start` is
-- the day number of the first date. `suffix` is the suffix of the base train's call at the timing
-- point
pub record AssociationKey : Type 0 where
  pub base : List ℕ
  pub associated : List ℕ
  pub start : ℕ
  pub location : List ℕ
  pub suffix : ℕ
  pub indicator : ℕ

-- the key of a schedule: its UID, its runs-from date as a day number, and its STP indicator
pub record ScheduleKey : Type 0 where
  pub uid : List ℕ
  pub runs_from : ℕ
  pub indicator : ℕ

-- a key, which identifies an entry of a state: a TIPLOC, or the key of an association or a schedule
pub data Key : Type 0 where
  tiploc_key : (code : List ℕ) → Key
  association_key : (key : AssociationKey) → Key
  schedule_key : (key : ScheduleKey) → Key

-- a body: the value that a put stores under its key. The body of a TIPLOC consists of columns 10 to
-- 72 of its record. The body of an association is its whole record. The body of a schedule consists
-- of all its records
pub data Body : Type 0 where
  tiploc_body : (bytes : List ℕ) → Body
  association_body : (line : List ℕ) → Body
  schedule_body : (lines : List (List ℕ)) → Body

-- the act of a change: a deletion of its key, or a put of a body under its key
pub data Act : Type 0 where
  delete : Act
  put : (body : Body) → Act

-- a change that a record makes to one key: the number of the record, the key, and the act
pub record Change : Type 0 where
  pub number : ℕ
  pub key : Key
  pub act : Act

-- the key of a TIPLOC record: its code, in columns 3 to 9
abbrev pub tiploc_named : List ℕ → Key
tiploc_named line = tiploc_key (columns 3 9 line)

-- the key for the new code of a TIPLOC amendment, in columns 73 to 79
abbrev pub new_tiploc_named : List ℕ → Key
new_tiploc_named line = tiploc_key (columns 73 79 line)

-- the key of an association record
abbrev pub association_named : List ℕ → Key
association_named line = association_key (record {
  base = columns 4 9 line;
  associated = columns 10 15 line;
  start = date_number (columns 16 21 line);
  location = columns 38 44 line;
  suffix = column 45 line;
  indicator = column 80 line;
})

-- the key of a basic schedule
abbrev pub schedule_named : List ℕ → Key
schedule_named line = schedule_key (record {
  uid = columns 4 9 line;
  runs_from = date_number (columns 10 15 line);
  indicator = column 80 line;
})

-- converts the record of a TIPLOC to the TIPLOC's body, which is columns 10 to 72
abbrev pub tiploc_details : List ℕ → Body
tiploc_details line = tiploc_body (columns 10 72 line)

-- whether a TIPLOC amendment keeps the code: its new code is blank or the same as the old code
abbrev pub keeps_code : List ℕ → Bool
keeps_code line = is_blank (columns 73 79 line) || bytes_eq (columns 73 79 line) (columns 3 9 line)

-- the records of a schedule after its basic schedule, taken from all records that follow the basic
-- schedule in the file. The schedule ends before the next unit or the trailer
abbrev pub schedule_rest : List (List ℕ) → List (List ℕ)
schedule_rest following = take_while (λ line. follows_basic (kind_of line)) following

-- the acts of a record of this kind: a list of keys, each with its act. The last argument contains
-- the records that follow this record in the file. A TIPLOC amendment with a new code has two acts:
-- a deletion of the old code, and a put of the new code. The act of a basic schedule puts the whole
-- schedule, and the records after it in the schedule have no acts. Before a schedule or an
-- association is put, its transaction is set to N. So a new record puts the same body as a revision
abbrev pub acts_by_kind : Option Kind → List ℕ → List (List ℕ) → List (Key × Act)
acts_by_kind (Some tiploc_insert) line following = (tiploc_named line, put (tiploc_details line)) ∷ []
acts_by_kind (Some tiploc_amend) line following =
    if keeps_code line then (tiploc_named line, put (tiploc_details line)) ∷ []
    else (tiploc_named line, delete) ∷ (new_tiploc_named line, put (tiploc_details line)) ∷ []
acts_by_kind (Some tiploc_delete) line following = (tiploc_named line, delete) ∷ []
acts_by_kind (Some association) line following =
    (association_named line, if is_deletion line then delete else put (association_body (as_new line))) ∷ []
acts_by_kind (Some basic_schedule) line following =
    (schedule_named line, if is_deletion line then delete else put (schedule_body (as_new line ∷ schedule_rest following))) ∷ []
acts_by_kind _ line following = []

-- the changes of one record, each with this record number. The last argument contains the records
-- that follow this record in the file
abbrev pub changes_of_record : ℕ → List ℕ → List (List ℕ) → List Change
changes_of_record number line following =
    map (λ act. record { number = number; key = act.0; act = act.1 }) (acts_by_kind (kind_of line) line following)

-- the changes of these records. The first of these records has the record number `number`
abbrev pub changes_from : ℕ → List (List ℕ) → List Change
changes_from number [] = []
changes_from number (line ∷ following) = changes_of_record number line following ++ changes_from (number + 1) following

-- the changes of a file, in the order of its records. The header has the record number 1
abbrev pub changes : List (List ℕ) → List Change
changes file = changes_from 1 file
