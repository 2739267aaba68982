-- The changes of a file.
use Rattle.std.specs.Prelude.{◌≡◌, List, ◌++◌, map}
use Rattle.std.specs.Global.{Vec}
use Rattle.docker_model.specs.file.Change as model
use Rattle.cif_change.specs.Meaning.{change_meant}
use Rattle.cif_change.specs.declared.change.Change.{Change}
use Rattle.cif_file.specs.declared.file.parts.FileParts.{FileParts}
use Rattle.cif_file.specs.FileRead.{FileRead, IsRead}

-- Says that a vector has exactly these changes.
abbrev pub HasMade : Vec Change → List model.Change → Type 0
HasMade made changes = map change_meant made.items ≡ changes

-- Says that these changes were appended to the changes that the vector had before.
abbrev pub Makes : Vec Change → List model.Change → Vec Change → Type 0
Makes old more new = (before : List model.Change) → HasMade old before → HasMade new (before ++ more)

-- converts the parts of a file to the file that was read
abbrev pub file_of_parts : FileParts → FileRead
file_of_parts parts = record {
  header_line = parts.header;
  record_count = parts.records;
  changes_made = map change_meant parts.changes.items;
}

-- Says that these are the parts of a file that was read.
abbrev pub ArePartsOfFile : FileParts → Type 0
ArePartsOfFile parts = IsRead (file_of_parts parts)
