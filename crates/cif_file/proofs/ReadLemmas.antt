-- Reading a source: the text that is fed to the parser is exactly the text that was read from the source.
use Rattle.cif_laws.proofs.Common.{◌≡◌, ℕ, ◌≤◌, ◌≢◌, ◌⊎◌, List, [], ◌++◌, length, true, Some, None, Err, Result, refl, subst, arith, append-nil, rules, Option}
use Rattle.cif_laws.proofs.Common.{Ok, OnOk, IfOk, IfErr, is_some, lines_of, IsFaultSoFar, IsFileText}
use Rattle.docker_model.specs.file.FileFault as model
use Rattle.cif_laws.proofs.files.ReportedFaults.{fault_in_the_end}
use Rattle.cif_laws.proofs.lists.BoolsAndOptions.{some_by_test}
use Rattle.cif_device.specs.Device.{Reads, IsEnd, Held}
use Rattle.cif_device.specs.Taken.{AfterEach, HasFed, HasRefused, LosesOnePieceMore}
use Rattle.cif_change.specs.declared.cause.FileCause.{FileCause}
use Rattle.cif_change.specs.declared.cause.FileCause.TheVariants.{Memory}
use Rattle.cif_file.specs.declared.fault.FileFault.{FileFault}
use Rattle.cif_file.specs.declared.fault.FileReadFault.{FileReadFault}
use Rattle.cif_file.specs.declared.fault.FileReadFault.TheVariants as read
use Rattle.cif_change.specs.Cause.{cause_meant}
use Rattle.cif_file.specs.declared.file.ended.Ended.{Ended}
use Rattle.cif_file.specs.declared.read.parser.FileReading.{FileReading}
use Rattle.cif_file.specs.KeeperRead.{Keeps}
use Rattle.cif_file.specs.FileTaken.{TakesFile, RefusesPiece}
use Rattle.cif_file.proofs.ParserLemmas.{reading_tells_none}
use Rattle.cif_file.specs.ParserRead.{EndsBy, GoesOn, TellsFault, IsReading, IsLater, IsLast, WantsMemoryAt, IsCauseSoFar, IsFaultReported, IsCauseOf}
use Rattle.cif_file.specs.ParserRead.{IsRefused}
use Rattle.cif_file.specs.SourceRead.{IsFaultOf, ReadsEnded, RefusesText, ReadsNoFurther, WantsAtStart, WantsMemory, WantsMemoryBy}
use Rattle.cif_file.specs.FileEnds.{CountsFileOutcome, CountsWhyNoFile, IsFileOutcome, IsWhyNoFile, StopsReadingFile, Wanting}

-- ---- pieces of a source

-- an empty text has no fault
sound_at_start : (limit : ℕ) (fault : model.FileFault) → ¬ IsFaultSoFar limit [] fault
sound_at_start limit fault told = let number = told.is.number in let none : fault.number ≤ 0 = told.told in absurd (omega (arith, number, none))

-- at first the parser has taken the empty text
pub at_start : {K : Type 0} (keeps : Keeps K) (limit : ℕ) (reading : FileReading K) → IsReading keeps reading limit [] → limit ≤ 4294967294
    → TakesFile keeps reading limit []
at_start keeps limit reading has few = record { read = has; few = few; sound = sound_at_start limit }

-- if the parser has taken a text and then takes a piece, it has taken the text followed by the
-- piece
pub takes_more : {K : Type 0} (keeps : Keeps K) (before after : FileReading K) (piece : List ℕ) {A : Type 0} (result : Result A FileFault)
    → OnOk result (GoesOn (IsReading keeps before) piece (IsReading keeps after))
    → OnOk result (AfterEach (TakesFile keeps) before (λ limit text. TakesFile keeps after limit (text ++ piece)))
takes_more keeps before after piece (Ok done) read = λ limit text has.
    let more = read limit text has.read in
    record { read = more; few = has.few; sound = reading_tells_none keeps after limit (text ++ piece) more }
takes_more keeps before after piece (Err fault) read = tt

-- the fault that the parser returns for a piece is a fault of the text that was taken before, followed by the piece
pub refuses_more : {K : Type 0} (keeps : Keeps K) (wants : Type 0) (before : FileReading K) (piece : List ℕ) {A : Type 0} (result : Result A FileFault)
    → IfErr result (TellsFault (IsReading keeps before) piece) → IfErr result (IsLater keeps wants before)
    → IfErr result (λ fault. AfterEach (TakesFile keeps) before (λ limit text. RefusesPiece wants limit text piece fault))
refuses_more keeps wants before piece (Ok done) told later = tt
refuses_more keeps wants before piece (Err fault) told later = λ limit text has.
    let new = later limit text has.read in
    record { reported = told limit text has.read; later = new.0; wanted = new.1 }

-- ---- how far a source is read

-- at most one piece is read after a text without a fault
pub no_further : {K : Type 0} (keeps : Keeps K) (limit : ℕ) (initial next : Option (List ℕ)) → LosesOnePieceMore (TakesFile keeps) 65536 limit [] initial next
    → ReadsNoFurther 65536 limit initial next
no_further = search rules

-- a text that was read to the end of a source is the text that the source held
held_all : (initial now : Option (List ℕ)) (text : List ℕ) → Reads initial text now → IsEnd now → Held initial text
held_all = search (rules, append-nil)

-- ---- causes of the code and of the definitions

-- the only cause of the code that the definitions don't have is `Memory`
meant : (cause : FileCause) → cause ≢ Memory → is_some (cause_meant cause) ≡ true
meant = search rules

-- a fault of the complete lines of a text is a fault of any longer text that begins with this one, unless the cause is `Memory`
fault_of_reported : (limit : ℕ) (text more : List ℕ) (fault : FileFault) → IsFaultReported limit text fault → fault.cause ≢ Memory
    → IsFaultOf limit (text ++ more) fault
fault_of_reported limit text more fault told other =
    let cause = some_by_test (cause_meant fault.cause) (meant fault.cause other) in
    record { cause = cause.0; cause_is = cause.1; is = fault_in_the_end limit text more _ (subst (IsCauseSoFar limit text fault.number) cause.1 told) }

refused_of : (limit : ℕ) (text : List ℕ) (fault : FileFault) → IsRefused limit text fault → fault.cause ≢ Memory → IsFaultOf limit text fault
refused_of limit text fault refused other =
    let cause = some_by_test (cause_meant fault.cause) (meant fault.cause other) in
    record { cause = cause.0; cause_is = cause.1; is = subst (IsCauseOf limit text fault.number) cause.1 refused }

-- if reading a source returns a fault of the file, the parser returned this fault, and its cause isn't `Memory`
returned_as_file : (fault told : FileFault) (result : FileReadFault) → (fault.cause ≡ Memory → result ≡ read.Memory)
    → (fault.cause ≢ Memory → result ≡ read.File fault) → result ≡ read.File told → (fault ≡ told) × (fault.cause ≢ Memory)
returned_as_file = search rules

pub memory_or_not : (cause : FileCause) → (cause ≡ Memory) ⊎ (cause ≢ Memory)
memory_or_not = search rules

-- if reading a source returns `Memory`, the parser returned a fault with the cause `Memory`
returned_as_memory : (fault : FileFault) (result : FileReadFault) → (fault.cause ≢ Memory → result ≡ read.File fault) → result ≡ read.Memory
    → fault.cause ≡ Memory
returned_as_memory = search (rules, memory_or_not)

-- ---- faults of the text that a source held

-- if reading a source returns the error `File` at the end of the text, its fault is a fault of the whole text
pub fault_at_end : {A : Type 0} (limit : ℕ) (text : List ℕ) (fault told : FileFault) (result : FileReadFault) → IsRefused limit text fault
    → (fault.cause ≡ Memory → result ≡ read.Memory) → (fault.cause ≢ Memory → result ≡ read.File fault)
    → ◌≡◌ {A = Result A FileReadFault} (Err result) (Err (read.File told)) → IsFaultOf limit text told
fault_at_end limit text fault told result refused memory file is =
    let told_is : result ≡ read.File told = cc in
    let as_file = returned_as_file fault told result memory file told_is in
    subst (IsFaultOf limit text) as_file.0 (refused_of limit text fault refused as_file.1)

-- if memory runs out at the end of the text, it runs out at the last record
pub memory_at_end : {K : Type 0} (keeps : Keeps K) (wants : Type 0) {A : Type 0} (limit : ℕ) (text : List ℕ) (reading : FileReading K) (fault : FileFault)
    (result : FileReadFault) → IsReading keeps reading limit text
    → IsRefused limit text fault → IsLater keeps wants reading fault → IsLast keeps reading fault → (fault.cause ≢ Memory → result ≡ read.File fault)
    → ◌≡◌ {A = Result A FileReadFault} (Err result) (Err read.Memory)
    → wants × WantsMemoryAt limit (lines_of text) (length (lines_of text)) × IsFileText limit text (lines_of text)
memory_at_end keeps wants limit text reading fault result has refused later last file is =
    let told_is : result ≡ read.Memory = cc in
    let wanting = returned_as_memory _ _ file told_is in
    let whole = last wanting limit text has in (
      (later limit text has).1 wanting,
      subst (WantsMemoryAt limit (lines_of text)) whole.0 (subst (λ cause. IsCauseOf limit text fault.number (cause_meant cause)) wanting refused),
      whole.1,
    )

-- if a fault of the text is found at the end of the source, it is a fault of the text that the source held
refused_at_end : {K : Type 0} (keeps : Keeps K) (limit count : ℕ) (initial now : Option (List ℕ)) (reading : FileReading K) (fault : FileFault)
    → (at : HasFed (TakesFile keeps) count limit [] initial now reading) → IsEnd now → IsFaultOf limit at.bytes fault → RefusesText limit initial fault
refused_at_end = search (rules, held_all)

-- if memory runs out at the end of the source, it does so at the last record of the text that the source held
wants_at_end : {K : Type 0} (keeps : Keeps K) (wants : Type 0) (limit count : ℕ) (initial now : Option (List ℕ)) (reading : FileReading K)
    → (at : HasFed (TakesFile keeps) count limit [] initial now reading) → IsEnd now
    → wants × WantsMemoryAt limit (lines_of at.bytes) (length (lines_of at.bytes)) × IsFileText limit at.bytes (lines_of at.bytes)
    → WantsMemoryBy wants 65536 limit initial now
wants_at_end = search (rules, held_all)

-- Says that a piece from the source was refused with this fault.
abbrev HasRefusedFile : {K : Type 0} → Keeps K → Type 0 → ℕ → Option (List ℕ) → Option (List ℕ) → FileReading K → FileFault → Type 0
HasRefusedFile keeps wants limit initial next reading fault =
    HasRefused (TakesFile keeps) (λ _ n text piece told. RefusesPiece wants n text piece told) 65536 limit [] initial next reading fault

-- if a piece was refused with a fault, this fault is a fault of the text that the source held
refused_before : {K : Type 0} (keeps : Keeps K) (wants : Type 0) (limit : ℕ) (initial next : Option (List ℕ)) (reading : FileReading K)
    (fault told : FileFault) (result : FileReadFault) → HasRefusedFile keeps wants limit initial next reading fault
    → (fault.cause ≡ Memory → result ≡ read.Memory) → (fault.cause ≢ Memory → result ≡ read.File fault) → result ≡ read.File told
    → RefusesText limit initial told
refused_before keeps wants limit initial next reading fault told result has memory file is = by initial next has.more.lost
  where
    text : List ℕ
    text = has.more.bytes ++ has.more.piece

    as_file : (fault ≡ told) × (fault.cause ≢ Memory)
    as_file = returned_as_file fault told result memory file is

    of : (rest : List ℕ) → IsFaultOf limit (text ++ rest) told
    of rest = subst (IsFaultOf limit (text ++ rest)) as_file.0 (fault_of_reported limit text rest fault has.refused.reported as_file.1)

    by : (initial next : Option (List ℕ)) → Reads initial text next → RefusesText limit initial told
    by None next lost = record { text = text ++ []; held = tt; is = of [] }
    by (Some bytes) None lost = cc
    by (Some bytes) (Some rest) lost = record { text = text ++ rest; held = cc; is = of rest }

-- if memory runs out before the end, it does so at a record that is complete only with the last piece
wants_before : {K : Type 0} (keeps : Keeps K) (wants : Type 0) (limit : ℕ) (initial next : Option (List ℕ)) (reading : FileReading K)
    (fault : FileFault) (result : FileReadFault) → HasRefusedFile keeps wants limit initial next reading fault
    → (fault.cause ≢ Memory → result ≡ read.File fault) → result ≡ read.Memory → WantsMemoryBy wants 65536 limit initial next
wants_before = search (rules, returned_as_memory)

-- ---- how reading ends

-- if no bytes are lost, no byte was read
pub unread : (initial next : Option (List ℕ)) → next ≡ initial → Reads initial [] next
unread = search rules

-- if all bytes of a source were read, reading ends with the result that the parser returns for
-- these bytes
pub ends_whole : {K : Type 0} (keeps : Keeps K) (wants : Type 0) (limit count : ℕ) (initial now : Option (List ℕ)) (reading : FileReading K)
    (failed failed_now : ℕ) (result : Result (Ended K) FileReadFault) → HasFed (TakesFile keeps) count limit [] initial now reading → IsEnd now
    → ReadsNoFurther 65536 limit initial now → failed_now ≡ failed → IfOk result (EndsBy keeps reading)
    → ((limit : ℕ) (text : List ℕ) → IsReading keeps reading limit text → (fault : FileFault) → result ≡ Err (read.File fault) → IsFaultOf limit text fault)
    → ((limit : ℕ) (text : List ℕ) → IsReading keeps reading limit text → result ≡ Err read.Memory
    → wants × WantsMemoryAt limit (lines_of text) (length (lines_of text)) × IsFileText limit text (lines_of text))
    → result ≢ Err read.Source
    → StopsReadingFile limit initial now (IsFileOutcome (WantsMemoryBy wants) limit (ReadsEnded keeps limit initial) initial now result)
    (CountsFileOutcome failed failed_now result)
ends_whole keeps wants limit count initial now reading failed failed_now (Ok ended) at end few same ok file memory source = record {
  no_further = few;
  outcome = (
    record { text = at.bytes; held = held_all initial now at.bytes at.lost end; of_text = ok limit at.bytes at.taken.read },
    end,
  );
  failures = same;
}
ends_whole keeps wants limit count initial now reading failed failed_now (Err read.Source) at end few same ok file memory source = absurd (source refl)
ends_whole keeps wants limit count initial now reading failed failed_now (Err (read.File fault)) at end few same ok file memory source =
    search (rules, no_further, refused_at_end)
ends_whole keeps wants limit count initial now reading failed failed_now (Err read.Memory) at end few same ok file memory source = record {
  no_further = few;
  outcome = wants_at_end keeps wants limit count initial now reading at end (memory limit at.bytes at.taken.read refl);
  failures = same;
}

-- if a piece was refused, reading ends with the fault with which it was refused
pub ends_early : {K : Type 0} (keeps : Keeps K) (wants : Type 0) (limit : ℕ) (initial next : Option (List ℕ)) (reading : FileReading K)
    (failed failed_now : ℕ) (fault : FileFault) (result : FileReadFault) → HasRefusedFile keeps wants limit initial next reading fault
    → ReadsNoFurther 65536 limit initial next → failed_now ≡ failed
    → (fault.cause ≡ Memory → result ≡ read.Memory) → (fault.cause ≢ Memory → result ≡ read.File fault) → result ≢ read.Source
    → StopsReadingFile limit initial next (IsWhyNoFile (WantsMemoryBy wants) limit initial next result) (CountsWhyNoFile result failed failed_now)
ends_early keeps wants limit initial next reading failed failed_now fault read.Source has few same memory file source = absurd (source refl)
ends_early keeps wants limit initial next reading failed failed_now fault (read.File told) has few same memory file source = record {
  no_further = few;
  outcome = refused_before keeps wants limit initial next reading fault told (read.File told) has memory file refl;
  failures = same;
}
ends_early keeps wants limit initial next reading failed failed_now fault read.Memory has few same memory file source = search (rules, no_further, wants_before)

-- ---- out of memory

-- if reading stops with a fault, and `wants` implies `wants_too`, the fault may also be explained by
-- `wants_too`
ends_with : (wants wants_too : Wanting) (limit : ℕ) (left left_now : Option (List ℕ)) (failed failed_now : ℕ) (fault : FileReadFault)
    → (wants 65536 limit left left_now → wants_too 65536 limit left left_now)
    → StopsReadingFile limit left left_now (IsWhyNoFile wants limit left left_now fault) (CountsWhyNoFile fault failed failed_now)
    → StopsReadingFile limit left left_now (IsWhyNoFile wants_too limit left left_now fault) (CountsWhyNoFile fault failed failed_now)
ends_with = search (rules, no_further)

-- if memory ran out where `WantsMemoryBy` allows it, it ran out where `WantsMemory` allows it
pub wants_any : (wants : Type 0) (limit : ℕ) (left left_now : Option (List ℕ)) (failed failed_now : ℕ) (fault : FileReadFault)
    → StopsReadingFile limit left left_now (IsWhyNoFile (WantsMemoryBy wants) limit left left_now fault) (CountsWhyNoFile fault failed failed_now)
    → StopsReadingFile limit left left_now (IsWhyNoFile WantsMemory limit left left_now fault) (CountsWhyNoFile fault failed failed_now)
wants_any = search (rules, ends_with)

-- if the keeper can't run out of memory, reading returns `Memory` only before it has read a byte
pub wants_none : (limit : ℕ) (left left_now : Option (List ℕ)) (failed failed_now : ℕ) (fault : FileReadFault)
    → StopsReadingFile limit left left_now (IsWhyNoFile (WantsMemoryBy ⊥) limit left left_now fault) (CountsWhyNoFile fault failed failed_now)
    → StopsReadingFile limit left left_now (IsWhyNoFile WantsAtStart limit left left_now fault) (CountsWhyNoFile fault failed failed_now)
wants_none = search (rules, ends_with)
