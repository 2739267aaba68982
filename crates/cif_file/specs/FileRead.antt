-- Defines what a reader returns for a CIF file.
use Rattle.std.specs.Prelude.{◌≡◌, ℕ, ◌≤◌, List, [], length, slice_index_or}
use Rattle.docker_model.specs.file.Change.{Change, changes}
use Rattle.docker_model.specs.file.File.{IsFile, most_records}

-- a CIF file that was read: the line of its header, the number of its records, and the changes that
-- the records make
pub record FileRead : Type 0 where
  pub header_line : List ℕ
  pub record_count : ℕ
  pub changes_made : List Change

-- Says that the header, the number of records and the changes of a file are correct for these
-- records.
pub record IsOfRecords (file : FileRead) (records : List (List ℕ)) : Type 0 where
  pub header_is : file.header_line ≡ slice_index_or records 0 []
  pub count_is : file.record_count ≡ length records
  pub changes_are : file.changes_made ≡ changes records

-- Says that the file was read from the records of a CIF file, and that there are at most
-- `most_records` of these records.
pub record IsRead (file : FileRead) : Type 0 where
  pub records : List (List ℕ)
  pub of_records : IsOfRecords file records
  pub is_file : IsFile records
  pub few : length records ≤ most_records

-- a CIF file whose records and changes were counted: the line of its header, and the two counts
pub record FileCounted : Type 0 where
  pub header_line : List ℕ
  pub record_count : ℕ
  pub change_count : ℕ

-- Says that a file's header and its two counts are correct for these records.
pub record IsCountOfRecords (count : FileCounted) (records : List (List ℕ)) : Type 0 where
  pub header_is : count.header_line ≡ slice_index_or records 0 []
  pub count_is : count.record_count ≡ length records
  pub changes_are : count.change_count ≡ length (changes records)

-- Says that the header and the counts are correct for the records of a CIF file, and that there are at most `most_records` of these records.
pub record IsCounted (count : FileCounted) : Type 0 where
  pub records : List (List ℕ)
  pub of_records : IsCountOfRecords count records
  pub is_file : IsFile records
  pub few : length records ≤ most_records
