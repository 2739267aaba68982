-- Lemmas on what the reader returns at the end of a file: the file with its changes, or its counts.
use Rattle.cif_laws.proofs.Common.{◌≡◌, ℕ, ◌+◌, ◌*◌, ◌≤◌, List, [], ◌∷◌, length, None, refl, arith, length-append, rules, length-map, Option, most_records}
use Rattle.cif_laws.proofs.Common.{Kind, kind_of, Change, Key, Act, acts_by_kind, changes_of_record, changes_from}
use Rattle.cif_file.specs.declared.file.ended.Ended.{Ended}
use Rattle.cif_file.specs.declared.keeper.kept.FileSoFar.{FileSoFar}
use Rattle.cif_file.specs.declared.keeper.counting.CountingKeeper.{CountingKeeper}
use Rattle.cif_file.specs.KeeperRead.{KeepsAll, CountsChanges}
use Rattle.cif_file.specs.EndedRead.{file_ended, parts_ended, count_ended}
use Rattle.cif_file.specs.MadeChanges.{ArePartsOfFile}
use Rattle.cif_file.specs.FileRead.{IsRead, IsCounted}
use Rattle.cif_file.specs.ParserRead.{IsOfFileText, IsCountOfFileText, IsEndedText, ParserState, WasFed, IsReading, EndsBy}
use Rattle.cif_file.specs.SourceRead.{ReadsText, CountsText, ReadsEnded}
use Rattle.cif_file.specs.declared.read.parser.FileReading.{FileReading}
use Rattle.cif_file.proofs.ParserLemmas.{reading_of}

-- ---- how many changes the records of a file make

few_acts : (kind : Option Kind) (line : List ℕ) (following : List (List ℕ)) → length (acts_by_kind kind line following) ≤ 2
few_acts = search rules

as_change : ℕ → Key × Act → Change
as_change n act = record { number = n; key = act.0; act = act.1 }

-- records make at most twice as many changes as there are records
few_changes : (n : ℕ) (records : List (List ℕ)) → length (changes_from n records) ≤ 2 * length records
unfolding as_change
few_changes n [] = omega arith
few_changes n (line ∷ following) =
    let more = few_changes (n + 1) following in
    let size = length-append (changes_of_record n line following) (changes_from (n + 1) following) in
    let same = length-map (acts_by_kind (kind_of line) line following) (as_change n) in
    let few = few_acts (kind_of line) line following in
    omega arith

-- ---- the file

pub of_file : (limit : ℕ) (text : List ℕ) (ended : Ended FileSoFar) → IsEndedText KeepsAll limit text ended → IsOfFileText (file_ended ended) limit text
of_file = search rules

-- the file that the reader returns was read from the records of a CIF file with at most `most_records` records
is_read : (limit : ℕ) (text : List ℕ) (ended : Ended FileSoFar) → limit ≤ most_records → IsEndedText KeepsAll limit text ended → IsRead (file_ended ended)
unfolding of_file
is_read = search (rules, of_file)

-- the limit of a reader is at most `most_records`
limit_at : (reading : FileReading FileSoFar) (limit : ℕ) (text : List ℕ) → IsReading KeepsAll reading limit text → limit ≤ most_records
limit_at reading limit text at = let room = reading.records.room in let same = at.counted.limit_is in omega arith

-- if a parser that hasn't returned a fault returns a file at the end, the parts that it returns belong to the file
pub are_parts_some : (parser : ParserState) (ended : Ended FileSoFar) → WasFed parser → parser.fault ≡ None → EndsBy KeepsAll parser.reading ended
    → ArePartsOfFile (parts_ended ended)
are_parts_some parser ended fed none ends =
    let at = reading_of parser parser refl none fed.limit fed.text fed.read in
    is_read fed.limit fed.text ended (limit_at parser.reading fed.limit fed.text at) (ends fed.limit fed.text at)

-- if the reader returns a file for the text that a source held, the source held the text of that file
pub reads_text : (limit : ℕ) (left : Option (List ℕ)) (ended : Ended FileSoFar) → ReadsEnded KeepsAll limit left ended → ReadsText limit left (file_ended ended)
reads_text limit left ended reads = record { text = reads.text; held = reads.held; of_text = of_file limit reads.text ended reads.of_text }

pub reads_parts : (limit : ℕ) (left : Option (List ℕ)) (ended : Ended FileSoFar) → limit ≤ most_records → ReadsEnded KeepsAll limit left ended
    → ArePartsOfFile (parts_ended ended)
reads_parts limit left ended few reads = is_read limit reads.text ended few reads.of_text

-- ---- the counts of a file

pub of_count : (limit : ℕ) (text : List ℕ) (ended : Ended CountingKeeper) → limit ≤ most_records → IsEndedText CountsChanges limit text ended
    → IsCountOfFileText (count_ended ended) limit text
of_count = search (rules, few_changes)

pub reads_count : (limit : ℕ) (left : Option (List ℕ)) (ended : Ended CountingKeeper) → limit ≤ most_records → ReadsEnded CountsChanges limit left ended
    → CountsText limit left (count_ended ended)
reads_count limit left ended few reads = search (rules, of_count)

pub reads_counted : (limit : ℕ) (left : Option (List ℕ)) (ended : Ended CountingKeeper) → limit ≤ most_records → ReadsEnded CountsChanges limit left ended
    → IsCounted (count_ended ended)
unfolding of_count
reads_counted limit left ended few reads =
    let is = of_count limit reads.text ended few reads.of_text in
    let within = is.is_text.within in
    record { records = is.records; of_records = is.of_records; is_file = is.is_text.is; few = omega arith }
