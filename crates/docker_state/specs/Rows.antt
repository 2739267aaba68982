-- The rows that the changes of a file make.
use Rattle.std.specs.Prelude.{Bool, false, if◌then◌else◌, List, [], ◌∷◌, Option, Some, None}
use Rattle.std.specs.Ordering.{is_eq}
use Rattle.docker_model.specs.file.Change as model
use Rattle.docker_model.specs.state.Stamp.{FileStamp}
use Rattle.docker_model.specs.state.Op as ops
use Rattle.docker_model.specs.state.Op.{op_of, key_cmp}
use Rattle.cif_change.specs.Meaning.{key_meant}
use Rattle.cif_change.specs.declared.key.Key.{Key}
use Rattle.docker_join.specs.declared.entry.Entry.{Entry}

-- the row that a change makes: its key, and an entry with the stamp of the file and the number of
-- the change
abbrev pub made_by : FileStamp → model.Change → model.Key × ops.Entry
made_by file change = (change.key, record { stamp = record { file = file; number = change.number }; op = op_of change.act })

-- whether a row has this key; false if there is no row
abbrev pub is_of_key : Option (Key × Entry) → model.Key → Bool
is_of_key None key = false
is_of_key (Some row) key = is_eq (key_cmp (key_meant row.0) key)

-- the list `rest` with the row prepended, unless the next row has the same key
abbrev pub last_or : Key × Entry → List (Key × Entry) → List (Key × Entry) → List (Key × Entry)
last_or row [] rest = row ∷ rest
last_or row (next ∷ rows) rest = if is_of_key (Some next) (key_meant row.0) then rest else row ∷ rest

-- the last row of each sequence of rows with the same key
abbrev pub last_rows : List (Key × Entry) → List (Key × Entry)
last_rows [] = []
last_rows (row ∷ rows) = last_or row rows (last_rows rows)
