-- The plain table of a set of files: the result of applying the newest full extract and then the
-- later files, record by record.
use Rattle.std.specs.Prelude.{◌≡◌, ℕ, Bool, ◌==◌, if◌then◌else◌, List, [], ◌∷◌, ◌↔◌, Option, None, fold, Contains}
use Rattle.std.specs.List.{list_any}
use Rattle.std.specs.Ordering.{is_eq, on}
use Rattle.docker_model.specs.file.Change.{Key, Body, Change, changes}
use Rattle.docker_model.specs.state.Order.{IsStrictlyAscending}
use Rattle.docker_model.specs.state.Stamp.{ledger_item_of, moment_of, moment_cmp}
use Rattle.docker_model.specs.state.Op.{op_of, body_of, key_cmp}

-- a table: the body under each key, or `None` if there is no body under the key
abbrev pub Table : Type 0
Table = Key → Option Body

-- the table without any body
abbrev pub empty_table : Table
empty_table key = None

-- the table after a change. The change puts a body under its key or removes the body under its key.
-- All other keys are unchanged
abbrev pub after_change : Table → Change → Table
after_change table change key = if is_eq (key_cmp change.key key) then body_of (op_of change.act) else table key

-- the table after all changes of a file
abbrev pub after_file : Table → List (List ℕ) → Table
after_file table file = fold after_change table (changes file)

-- the table after all changes of these files, file by file
abbrev pub after_files : Table → List (List (List ℕ)) → Table
after_files table files = fold after_file table files

-- whether the file is a full extract: the update indicator of its header is F
abbrev pub is_full : List (List ℕ) → Bool
is_full file = (ledger_item_of file).indicator == 70

-- the last full extract and the files after it, or all files if there is no full extract. For
-- example, if the files are an update, a full extract and another update, the result has the last
-- two
abbrev pub from_last_full : List (List (List ℕ)) → List (List (List ℕ))
from_last_full [] = []
from_last_full (file ∷ files) = if list_any is_full files then from_last_full files else file ∷ files

-- `ordered` has the files of the set, each once, in the order of their moments
pub record IsInMomentOrder (files ordered : List (List (List ℕ))) : Type 0 where
  pub same : (file : List (List ℕ)) → Contains ordered file ↔ Contains files file
  pub ascending : IsStrictlyAscending (on moment_of moment_cmp) ordered

-- `table` is the plain table of a set of files with distinct moments. The changes of the newest
-- full extract are applied to the empty table. Then the changes of each later file are applied, in
-- the order of moments. If there is no full extract, the changes of all files are applied
pub record IsPlainTable (files : List (List (List ℕ))) (table : Table) : Type 0 where
  pub ordered : List (List (List ℕ))
  pub order : IsInMomentOrder files ordered
  pub is : (key : Key) → table key ≡ after_files empty_table (from_last_full ordered) key
