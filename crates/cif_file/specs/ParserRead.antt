-- Defines what a parser of a CIF file has taken, and what its faults mean.
use Rattle.std.specs.Prelude.{◌≡◌, ℕ, ◌+◌, ◌<◌, ◌≤◌, ◌⊎◌, List, [], ◌∷◌, ◌++◌, length, take, Option, Some, None, nat_le}
use Rattle.std.proofs.Common.{cond}
use Rattle.docker_model.specs.file.Text.{lines_of, complete_lines}
use Rattle.docker_model.specs.file.FaultSoFar.{IsFaultSoFar, sure_lines}
use Rattle.docker_model.specs.file.File.{IsFile, BeginsFile}
use Rattle.docker_model.specs.file.FileFault.{no_end, after_trailer, too_many, IsFileFault, IsFileText}
use Rattle.docker_model.specs.file.FileFault as model
use Rattle.cif_laws.specs.FileStage.{next_place, IsPlaceOf}
use Rattle.cif_laws.specs.FileStage as law
use Rattle.cif_laws.specs.RecordCause.{cause_of, cause_of_long, is_after_end}
use Rattle.cif_laws.specs.CompleteLines.{open_line}
use Rattle.cif_file.specs.declared.fault.FileFault.{FileFault}
use Rattle.cif_change.specs.declared.cause.FileCause.{FileCause}
use Rattle.cif_change.specs.declared.cause.FileCause.TheVariants.{Memory}
use Rattle.cif_file.specs.declared.file.ended.Ended.{Ended}
use Rattle.cif_file.specs.declared.records.front.Front.{Front}
use Rattle.cif_file.specs.declared.keeper.kept.FileSoFar.{FileSoFar}
use Rattle.cif_file.specs.declared.records.Records.{Records}
use Rattle.cif_file.specs.declared.read.parser.FileReading.{FileReading}
use Rattle.cif_change.specs.Cause.{cause_meant}
use Rattle.cif_file.specs.Cut.{before_rest}
use Rattle.cif_file.specs.FileRead.{FileRead, FileCounted, IsOfRecords, IsCountOfRecords}
use Rattle.cif_file.specs.KeeperRead.{Keeps, KeepsAll}
use Rattle.cif_file.specs.EndedRead.{IsEnded}
use Rattle.cif_file.specs.RecordsRead.{HasRecords, GoesOnWith}

abbrev Lines : Type 0
Lines = List (List ℕ)

-- Says that the reader has taken exactly these records, which are within the limit.
pub record HasCounted {K : Type 0} (keeps : Keeps K) (state : Records K) (limit : ℕ) (records : Lines) : Type 0 where
  pub limit_is : state.limit ≡ limit
  pub next_is : state.next ≡ length records + 1
  pub within : length records ≤ limit
  pub has : HasRecords keeps state.front records

-- Says that this line can't follow these records under the limit, and that this is the cause.
pub record IsCauseNext (limit : ℕ) (records : Lines) (line : List ℕ) (cause : model.FileCause) : Type 0 where
  pub place : law.Place
  pub at : IsPlaceOf records place
  pub here : (limit ≤ length records) ⊎ (next_place place line ≡ None)
  pub is : cause_of limit (length records) place line ≡ cause

-- Says why the reader refused the line that follows these records. `None` means that memory ran
-- out. In that case `wants` holds: the keeper may run out of memory. Some file within the limit
-- then begins with these records and the line.
abbrev pub IsCauseAfter : Type 0 → ℕ → Lines → List ℕ → Option model.FileCause → Type 0
IsCauseAfter wants limit records line None = wants × (length records < limit) × GoesOnWith records line
IsCauseAfter wants limit records line (Some cause) = IsCauseNext limit records line cause

-- Says that this is a fault at the line that follows these records: it gives the line's number and
-- a correct cause.
pub record IsFaultNext (wants : Type 0) (limit : ℕ) (records : Lines) (line : List ℕ) (fault : FileFault) : Type 0 where
  pub number : fault.number ≡ length records + 1
  pub cause : IsCauseAfter wants limit records line (cause_meant fault.cause)

-- Says that this is the fault at a line of more than 81 bytes that follows these records.
pub record IsLongNext (limit : ℕ) (records : Lines) (fault : FileFault) : Type 0 where
  pub number : fault.number ≡ length records + 1
  pub place : law.Place
  pub at : IsPlaceOf records place
  pub cause : cause_meant fault.cause ≡ Some (cause_of_long limit (length records) place)

-- the cause for which a line that isn't a record is refused. If the line is beyond the limit, the
-- cause is `too_many`. Otherwise, if the line comes after the trailer, the cause is
-- `after_trailer`. Otherwise `cause` says why the line isn't a record
abbrev pub refusal : ℕ → ℕ → law.Place → Option model.FileCause → Option model.FileCause
refusal limit count place cause = cond (nat_le limit count) (Some too_many) (cond (is_after_end place) (Some after_trailer) cause)

-- Says that this is the fault at the line that follows these records. The line isn't a record, and
-- `cause` says why.
pub record IsRefusedNext (limit : ℕ) (records : Lines) (cause : Option model.FileCause) (fault : FileFault) : Type 0 where
  pub number : fault.number ≡ length records + 1
  pub place : law.Place
  pub at : IsPlaceOf records place
  pub is : cause_meant fault.cause ≡ refusal limit (length records) place cause

-- Says that the fault is a missing trailer: the text ends after these records, which aren't a file.
abbrev pub IsNoEndOf : Lines → FileFault → Type 0
IsNoEndOf records fault = (fault.number ≡ length records + 1) × (cause_meant fault.cause ≡ Some no_end) × (¬ IsFile records)

-- Says that this is a correct cause for refusing the line. The line may follow any records that the reader may have taken, if the limit allows one more record.
abbrev pub RefusesWithin : {K : Type 0} → Keeps K → Type 0 → Front K → List ℕ → FileCause → Type 0
RefusesWithin keeps wants front line cause =
    (limit : ℕ) (records : Lines) → HasRecords keeps front records → length records < limit → IsCauseAfter wants limit records line (cause_meant cause)

-- Says that the reader has taken the line, after any records that it may have taken before.
abbrev pub CountsNext : {K : Type 0} → Keeps K → Records K → List ℕ → Records K → Type 0
CountsNext keeps old line new = (limit : ℕ) (records : Lines) → HasCounted keeps old limit records → HasCounted keeps new limit (records ++ line ∷ [])

-- Says that this is a fault at the line, after any records that the reader may have taken.
abbrev pub FaultsNext : {K : Type 0} → Keeps K → Type 0 → Records K → List ℕ → FileFault → Type 0
FaultsNext keeps wants state line fault = (limit : ℕ) (records : Lines) → HasCounted keeps state limit records → IsFaultNext wants limit records line fault

-- Says that the records that the reader has taken are a file, and that the result is this file.
abbrev pub EndsCounted : {K : Type 0} → Keeps K → Records K → Ended K → Type 0
EndsCounted keeps state ended = (limit : ℕ) (records : Lines) → HasCounted keeps state limit records → IsFile records × IsEnded keeps records ended

-- Says that the records that the reader has taken aren't a file, and that the fault is their missing trailer.
abbrev pub EndsUnended : {K : Type 0} → Keeps K → Records K → FileFault → Type 0
EndsUnended keeps state fault = (limit : ℕ) (records : Lines) → HasCounted keeps state limit records → IsNoEndOf records fault

-- Says that the parser has taken exactly this text and found no fault. All complete lines were
-- taken as records, and the bytes after the last line feed are kept.
pub record IsReading {K : Type 0} (keeps : Keeps K) (reading : FileReading K) (limit : ℕ) (text : List ℕ) : Type 0 where
  pub counted : HasCounted keeps reading.records limit (complete_lines text)
  pub partial_is : reading.partial.items ≡ open_line text
  pub short : length (open_line text) ≤ 81

-- Says that the text is a CIF file within the limit on records, and that this is the reader's
-- result for the text.
pub record IsEndedText {K : Type 0} (keeps : Keeps K) (limit : ℕ) (text : List ℕ) (ended : Ended K) : Type 0 where
  pub records : Lines
  pub is_text : IsFileText limit text records
  pub of_records : IsEnded keeps records ended

-- Says that any text that the parser may have taken is a CIF file, and that this is the parser's
-- result for the text.
abbrev pub EndsBy : {K : Type 0} → Keeps K → FileReading K → Ended K → Type 0
EndsBy keeps reading ended = (limit : ℕ) (text : List ℕ) → IsReading keeps reading limit text → IsEndedText keeps limit text ended

-- Says that memory may have run out at the record with this number. That record is one of these
-- records and within the limit, and some file begins with the records up to and including it.
pub record WantsMemoryAt (limit : ℕ) (records : Lines) (number : ℕ) : Type 0 where
  pub some : 0 < number
  pub one : number ≤ length records
  pub within : number ≤ limit
  pub sound : BeginsFile (take number records)

-- Says that the first fault among a text's complete lines is at the record with this number and has
-- this cause. `None` means that memory ran out at that record, which is complete, and that no
-- record up to that record is at fault.
abbrev pub IsCauseSoFar : ℕ → List ℕ → ℕ → Option model.FileCause → Type 0
IsCauseSoFar limit text number None = WantsMemoryAt limit (complete_lines text) number
IsCauseSoFar limit text number (Some cause) = IsFaultSoFar limit text (record { number = number; cause = cause })

-- Like `IsCauseSoFar`, but for a fault in the code's type.
abbrev pub IsFaultReported : ℕ → List ℕ → FileFault → Type 0
IsFaultReported limit text fault = IsCauseSoFar limit text fault.number (cause_meant fault.cause)

-- Says that a whole text's fault is at the record with this number and has this cause. `None` means
-- that memory ran out at that record and that no record up to that record is at fault.
abbrev pub IsCauseOf : ℕ → List ℕ → ℕ → Option model.FileCause → Type 0
IsCauseOf limit text number None = WantsMemoryAt limit (lines_of text) number
IsCauseOf limit text number (Some cause) = IsFileFault limit text (record { number = number; cause = cause })

-- Like `IsCauseOf`, but for a fault in the code's type.
abbrev pub IsRefused : ℕ → List ℕ → FileFault → Type 0
IsRefused limit text fault = IsCauseOf limit text fault.number (cause_meant fault.cause)

-- the model of a parser: what the parser has taken, and the fault that it has returned, if any
pub record ParserState : Type 0 where
  pub reading : FileReading FileSoFar
  pub fault : Option FileFault

-- Says that the parser has taken this text without a fault, or that it has returned this fault of
-- the text.
abbrev pub IsReadingOrFault : FileReading FileSoFar → ℕ → List ℕ → Option FileFault → Type 0
IsReadingOrFault reading limit text None = IsReading KeepsAll reading limit text
IsReadingOrFault reading limit text (Some fault) = IsFaultReported limit text fault

-- Says that the parser may have this limit on records and may have been fed this text.
abbrev pub HasRead : ParserState → ℕ → List ℕ → Type 0
HasRead parser limit text = IsReadingOrFault parser.reading limit text parser.fault

-- Says that, for some limit and some text, the parser may have this limit on records and may have
-- been fed this text.
pub record WasFed (parser : ParserState) : Type 0 where
  pub limit : ℕ
  pub text : List ℕ
  pub read : HasRead parser limit text

-- Says that the text is a CIF file within the limit on records, and that this is the file.
pub record IsOfFileText (file : FileRead) (limit : ℕ) (text : List ℕ) : Type 0 where
  pub records : List (List ℕ)
  pub is_text : IsFileText limit text records
  pub of_records : IsOfRecords file records

-- Says that the text is a CIF file within the limit on records, and that these are its counts.
pub record IsCountOfFileText (count : FileCounted) (limit : ℕ) (text : List ℕ) : Type 0 where
  pub records : List (List ℕ)
  pub is_text : IsFileText limit text records
  pub of_records : IsCountOfRecords count records

-- Says that the parser has returned this fault.
abbrev pub HasFailed : ParserState → FileFault → Type 0
HasFailed parser fault = parser.fault ≡ Some fault

-- Says that the parser hasn't returned a fault.
abbrev pub HasNotFailed : ParserState → Type 0
HasNotFailed parser = (fault : FileFault) → ¬ HasFailed parser fault

-- Says that the record at fault isn't complete in any text that the parser may have taken before.
-- Also says that the cause is `Memory` only if `wants` holds, that is, if the keeper may run out of
-- memory.
abbrev pub IsLater : {K : Type 0} → Keeps K → Type 0 → FileReading K → FileFault → Type 0
IsLater keeps wants reading fault =
    (limit : ℕ) (text : List ℕ) → IsReading keeps reading limit text → (sure_lines text < fault.number) × (fault.cause ≡ Memory → wants)

-- Says of a parser that hasn't returned a fault: the record at fault isn't complete in any text
-- that it may have been fed before this call.
abbrev pub NamesLater : ParserState → FileFault → Type 0
NamesLater parser fault = HasNotFailed parser → (limit : ℕ) (text : List ℕ) → HasRead parser limit text → sure_lines text < fault.number

-- Says that memory ran out at the last record of this text, and that nothing is at fault with the
-- text: it is a CIF file within the limit. So it doesn't lack its trailer.
abbrev pub IsLastOfFile : ℕ → List ℕ → ℕ → Type 0
IsLastOfFile limit text number = (number ≡ length (lines_of text)) × IsFileText limit text (lines_of text)

-- Says that if memory ran out, it did so at the last record of the text that was taken, and this
-- text is a CIF file.
abbrev pub IsLast : {K : Type 0} → Keeps K → FileReading K → FileFault → Type 0
IsLast keeps reading fault =
    fault.cause ≡ Memory → (limit : ℕ) (text : List ℕ) → IsReading keeps reading limit text → IsLastOfFile limit text fault.number

-- Says that a parser which hasn't returned a fault ran out of memory only at the last record of the
-- text that was fed. This text is then a CIF file.
abbrev pub NamesLast : ParserState → FileFault → Type 0
NamesLast parser fault =
    HasNotFailed parser → fault.cause ≡ Memory → (limit : ℕ) (text : List ℕ) → HasRead parser limit text → IsLastOfFile limit text fault.number

-- ---- for any text that may have been taken, under any limit on records

-- Says that these bytes were taken after any text that was taken before. If `before` holds of a text, `after` holds of the text with these bytes appended.
abbrev pub GoesOn : (ℕ → List ℕ → Type 0) → List ℕ → (ℕ → List ℕ → Type 0) → Type 0
GoesOn before bytes after = (limit : ℕ) (text : List ℕ) → before limit text → after limit (text ++ bytes)

-- Says that the text ends with this rest, and that all bytes before the rest were taken.
pub record TakesUpTo (before : ℕ → List ℕ → Type 0) (text rest : List ℕ) (after : ℕ → List ℕ → Type 0) : Type 0 where
  pub whole : before_rest text rest ++ rest ≡ text
  pub read : GoesOn before (before_rest text rest) after

-- Says that if `before` holds of a text, this is the fault of the text with these bytes appended.
abbrev pub TellsFault : (ℕ → List ℕ → Type 0) → List ℕ → FileFault → Type 0
TellsFault before bytes fault = (limit : ℕ) (text : List ℕ) → before limit text → IsFaultReported limit (text ++ bytes) fault

-- Says that if `before` holds of a text, the text with these bytes appended has no fault.
abbrev pub TellsNoFault : (ℕ → List ℕ → Type 0) → List ℕ → Type 0
TellsNoFault before bytes =
    (limit : ℕ) (text : List ℕ) → before limit text → (fault : model.FileFault) → ¬ IsFaultSoFar limit (text ++ bytes) fault

-- Says that the text that was taken is a CIF file, and that this is the file.
abbrev pub EndsAs : (ℕ → List ℕ → Type 0) → FileRead → Type 0
EndsAs read file = (limit : ℕ) (text : List ℕ) → read limit text → IsOfFileText file limit text

-- Says that this is the fault of the text that was taken.
abbrev pub EndsInFault : (ℕ → List ℕ → Type 0) → FileFault → Type 0
EndsInFault read fault = (limit : ℕ) (text : List ℕ) → read limit text → IsRefused limit text fault
