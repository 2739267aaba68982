-- The line that `check` writes for an accepted file.
use Rattle.std.specs.Prelude.{ℕ, List, ◌++◌, length, codes, decimal}
use Rattle.docker_model.specs.file.Change.{Change}

-- the line with these numbers of records and changes
abbrev pub count_line : ℕ → ℕ → List ℕ
count_line records changes = codes "accepted: " ++ decimal records ++ codes " records, " ++ decimal changes ++ codes " changes\n"

-- the line for a file with this number of records and these changes
abbrev pub check_line : ℕ → List Change → List ℕ
check_line records changes = count_line records (length changes)
