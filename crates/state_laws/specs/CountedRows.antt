-- A table restricted to the keys that pass a test, and the rows with these keys. For example, the
-- test may be `is_permanent`.
use Rattle.std.specs.Prelude.{Bool, if◌then◌else◌, None, List, filter}
use Rattle.docker_model.specs.file.Change.{Key}
use Rattle.docker_model.specs.state.State.{HasGoodBodies}
use Rattle.docker_model.specs.state.Table.{Table}
use Rattle.docker_model.specs.state.Row.{Row, AreRowsOf}

-- the table restricted to the keys that pass the test
abbrev pub counted_table : (Key → Bool) → Table → Table
counted_table counts table key = if counts key then table key else None

-- the rows whose keys pass the test
abbrev pub counted_rows : (Key → Bool) → List Row → List Row
counted_rows counts rows = filter (λ (row : Row). counts row.0) rows

-- the table can be written as a list of rows, and each body in the table is well formed and belongs
-- to its key
pub record IsOfGoodRows (live : Table) : Type 0 where
  pub rows : List Row
  pub are : AreRowsOf live rows
  pub bodies : HasGoodBodies live
