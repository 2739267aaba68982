-- Defines what the reader of a CIF file's records has taken, and what it does with the next record.
use Rattle.std.specs.Prelude.{◌≡◌, ℕ, ◌+◌, ◌<◌, true, false, List, [], ◌∷◌, ◌++◌, length, Option, Some, None}
use Rattle.docker_model.specs.records.Record.{IsRecord, kind_of}
use Rattle.docker_model.specs.file.File.{first_record, follows_basic, IsFile, IsSchedule, BeginsSchedule}
use Rattle.docker_model.specs.file.Change.{changes, schedule_named}
use Rattle.docker_model.specs.file.FileFault as fault
use Rattle.cif_laws.specs.ScheduleStage.{Stage, stage_of}
use Rattle.cif_laws.specs.FileStage.{before_header, between_units, in_schedule, after_end, next_place, IsPlaceOf}
use Rattle.cif_laws.specs.FileStage as law
use Rattle.cif_laws.specs.RecordCause.{cause_of}
use Rattle.cif_change.specs.declared.key.Key.TheVariants as key
use Rattle.cif_file.specs.declared.keeper.opened.Opened.{Opened}
use Rattle.cif_file.specs.declared.records.front.FileStage.{FileStage}
use Rattle.cif_file.specs.declared.records.front.FileStage.TheVariants.{BeforeHeader, BetweenUnits, InSchedule, AfterEnd}
use Rattle.cif_file.specs.declared.records.front.Front.{Front}
use Rattle.cif_change.specs.declared.cause.FileCause.{FileCause}
use Rattle.cif_change.specs.Meaning.{key_meant}
use Rattle.cif_change.specs.Cause.{cause_meant}
use Rattle.cif_change.specs.JourneyRead.{progress_meant, HasLines, Advances}
use Rattle.cif_file.specs.KeeperRead.{Keeps}

abbrev Lines : Type 0
Lines = List (List ℕ)

-- the first record of a list, which is the header, or `None` if the list is empty
abbrev pub header_of : Lines → Option (List ℕ)
header_of [] = None
header_of (first ∷ records) = Some first

-- Says that the reader is inside this schedule. The records end with the schedule's lines, which the keeper holds, and the changes of all records before these
-- lines were made.
pub record IsOpen {K : Type 0} (keeps : Keeps K) (opened : Opened) (keeper : K) (place : law.Place) (records : Lines) : Type 0 where
  pub stage : Stage
  pub lines : Lines
  pub before : Lines
  pub place_is : place ≡ in_schedule stage lines
  pub stage_is : stage_of lines ≡ Some stage
  pub whole : records ≡ before ++ lines
  pub number_is : opened.number ≡ length before + 1
  pub key_is : key_meant (key.Schedule opened.key) ≡ schedule_named (first_record lines)
  pub progress_is : HasLines (progress_meant opened.progress) lines
  pub kept : keeps keeper lines (changes before)

-- Says that the code's stage and the definitions' `place` agree on how far the reader has come after the records. Also says that the changes of the records
-- were made. The change of a schedule that is being read is still to be made.
abbrev pub IsKept : {K : Type 0} → Keeps K → FileStage → K → law.Place → Lines → Type 0
IsKept keeps BeforeHeader keeper place records = (place ≡ before_header) × keeps keeper [] (changes records)
IsKept keeps BetweenUnits keeper place records = (place ≡ between_units) × keeps keeper [] (changes records)
IsKept keeps (InSchedule opened) keeper place records = IsOpen keeps opened keeper place records
IsKept keeps AfterEnd keeper place records = (place ≡ after_end) × keeps keeper [] (changes records)

-- Says that the reader has taken exactly these records, and that some file begins with them.
pub record HasRecords {K : Type 0} (keeps : Keeps K) (front : Front K) (records : Lines) : Type 0 where
  pub place : law.Place
  pub at : IsPlaceOf records place
  pub header_is : front.header ≡ header_of records
  pub kept_are : IsKept keeps front.stage front.keeper place records

-- Says that all units among the records are whole, and that their changes were made. So another
-- unit may follow.
pub record IsOver {K : Type 0} (keeps : Keeps K) (front : Front K) (records : Lines) : Type 0 where
  pub place : law.Place
  pub at : IsPlaceOf records place
  pub header_is : front.header ≡ header_of records
  pub some : 0 < length records
  pub kept : keeps front.keeper [] (changes records)
  pub anew : (line : List ℕ) → follows_basic (kind_of line) ≡ false → next_place place line ≡ next_place between_units line

-- Says that no file begins with these records followed by this line, and that this is the cause.
pub record IsNoNext (records : Lines) (line : List ℕ) (cause : fault.FileCause) : Type 0 where
  pub place : law.Place
  pub at : IsPlaceOf records place
  pub nowhere : next_place place line ≡ None
  pub is : (limit : ℕ) → length records < limit → cause_of limit (length records) place line ≡ cause

-- Says that some file begins with these records followed by this line.
abbrev pub GoesOnWith : Lines → List ℕ → Type 0
GoesOnWith records line = (next : law.Place) × IsPlaceOf (records ++ line ∷ []) next

-- Says why the line that follows these records was refused. `None` means that memory ran out. In
-- that case `wants` holds: the keeper may run out of memory. Some file then begins with the records
-- and the line. A cause says why no file begins with them.
abbrev pub IsNoNextCause : Type 0 → Lines → List ℕ → Option fault.FileCause → Type 0
IsNoNextCause wants records line None = wants × GoesOnWith records line
IsNoNextCause wants records line (Some cause) = IsNoNext records line cause

-- Says that any lines that the reader of this schedule may have taken are a whole schedule.
abbrev pub IsWholeBy : Opened → Type 0
IsWholeBy opened = (lines : Lines) → HasLines (progress_meant opened.progress) lines → IsSchedule lines

-- Says that the records end with lines of a schedule, and that the schedule may continue with this line. `opened` is the schedule with this line added.
pub record StandsBefore {K : Type 0} (keeps : Keeps K) (front : Front K) (opened : Opened) (line : List ℕ) (records : Lines) : Type 0 where
  pub is : IsRecord line
  pub follows : follows_basic (kind_of line) ≡ true
  pub stage : Stage
  pub lines : Lines
  pub before : Lines
  pub at : IsPlaceOf records (in_schedule stage lines)
  pub stage_is : stage_of lines ≡ Some stage
  pub header_is : front.header ≡ header_of records
  pub whole : records ≡ before ++ lines
  pub number_is : opened.number ≡ length before + 1
  pub key_is : key_meant (key.Schedule opened.key) ≡ schedule_named (first_record lines)
  pub progress_is : HasLines (progress_meant opened.progress) (lines ++ line ∷ [])
  pub goes_on : BeginsSchedule (lines ++ line ∷ [])
  pub kept : keeps front.keeper lines (changes before)

-- Says that the reader is still inside the same schedule, and that the line was appended to the
-- schedule's lines.
abbrev pub GoesOnTo : Opened → List ℕ → FileStage → Type 0
GoesOnTo old line BeforeHeader = ⊥
GoesOnTo old line BetweenUnits = ⊥
GoesOnTo old line (InSchedule new) = (new.number ≡ old.number) × (new.key ≡ old.key) × Advances old.progress line new.progress
GoesOnTo old line AfterEnd = ⊥

-- ---- what the reader does with the next line

-- Says that the reader has taken the line, after any records that it may have taken before.
abbrev pub TakesLine : {K : Type 0} → Keeps K → Front K → List ℕ → Front K → Type 0
TakesLine keeps old line new = (records : Lines) → HasRecords keeps old records → HasRecords keeps new (records ++ line ∷ [])

-- Says what taking the next line does. If the reader had taken some records, and `number` is one more than their number, the reader has now taken the line too.
abbrev pub TakesNext : {K : Type 0} → Keeps K → Front K → ℕ → List ℕ → Front K → Type 0
TakesNext keeps old number line new =
    (records : Lines) → HasRecords keeps old records → number ≡ length records + 1 → HasRecords keeps new (records ++ line ∷ [])

-- Says what taking a line that begins a unit does. If the reader had taken whole units, and
-- `number` is one more than the number of their records, the reader has now taken the line too.
abbrev pub BeginsAnew : {K : Type 0} → Keeps K → Front K → ℕ → List ℕ → Front K → Type 0
BeginsAnew keeps old number line new =
    (records : Lines) → IsOver keeps old records → number ≡ length records + 1 → HasRecords keeps new (records ++ line ∷ [])

-- Says that this is a correct cause for refusing the line after any records that the reader may have taken.
abbrev pub RefusesLine : {K : Type 0} → Keeps K → Type 0 → Front K → List ℕ → FileCause → Type 0
RefusesLine keeps wants front line cause = (records : Lines) → HasRecords keeps front records → IsNoNextCause wants records line (cause_meant cause)

-- Says that this is a correct cause for refusing the line after any records that the reader may have taken, unless they are a whole file.
abbrev pub RefusesUnended : {K : Type 0} → Keeps K → Type 0 → Front K → List ℕ → FileCause → Type 0
RefusesUnended keeps wants front line cause =
    (records : Lines) → HasRecords keeps front records → ¬ IsFile records → IsNoNextCause wants records line (cause_meant cause)
