-- Defines what the reader returns for a CIF file that was read to its trailer.
use Rattle.std.specs.Prelude.{◌≡◌, ℕ, List, [], length, slice_index_or}
use Rattle.docker_model.specs.file.Change.{changes}
use Rattle.cif_file.specs.declared.file.ended.Ended.{Ended}
use Rattle.cif_file.specs.declared.keeper.kept.FileSoFar.{FileSoFar}
use Rattle.cif_file.specs.declared.file.parts.FileParts.{FileParts}
use Rattle.cif_file.specs.declared.keeper.counting.CountingKeeper.{CountingKeeper}
use Rattle.cif_file.specs.KeeperRead.{Keeps}
use Rattle.cif_file.specs.MadeChanges.{file_of_parts}
use Rattle.cif_file.specs.FileRead.{FileRead, FileCounted}

-- Says that the header and the number of records in the result are correct for these records, and
-- that the keeper has received all their changes.
pub record IsEnded {K : Type 0} (keeps : Keeps K) (records : List (List ℕ)) (ended : Ended K) : Type 0 where
  pub header_is : ended.header ≡ slice_index_or records 0 []
  pub count_is : ended.records ≡ length records
  pub kept : keeps ended.keeper [] (changes records)

-- converts the `Ended` of a keeper that keeps all changes to the parts of the file
abbrev pub parts_ended : Ended FileSoFar → FileParts
parts_ended ended = record {
  header = ended.header;
  records = ended.records;
  changes = ended.keeper.made;
}

-- converts the `Ended` of a keeper that keeps all changes to the file that was read
abbrev pub file_ended : Ended FileSoFar → FileRead
file_ended ended = file_of_parts (parts_ended ended)

-- converts the `Ended` of a keeper that only counts changes to the counts of the file
abbrev pub count_ended : Ended CountingKeeper → FileCounted
count_ended ended = record { header_line = ended.header; record_count = ended.records; change_count = ended.keeper.changes }
