-- A live table as a list of rows: each live key with its body, in key order.
use Rattle.std.specs.Ordering.{on}
use Rattle.std.specs.Prelude.{List, ◌≡◌, ◌↔◌, Some, Contains}
use Rattle.docker_model.specs.file.Change.{Key, Body}
use Rattle.docker_model.specs.state.Order.{IsStrictlyAscending}
use Rattle.docker_model.specs.state.Op.{key_cmp}
use Rattle.docker_model.specs.state.Table.{Table}

-- a row of a table: a key and its body
abbrev pub Row : Type 0
Row = Key × Body

-- the rows are in strictly ascending order of their keys
abbrev pub AreInKeyOrder : List Row → Type 0
AreInKeyOrder rows = IsStrictlyAscending (on (λ (row : Row). row.0) key_cmp) rows

-- `rows` is the live table as a list: each live key once, with its body, in key order
pub record AreRowsOf (live : Table) (rows : List Row) : Type 0 where
  pub ascending : AreInKeyOrder rows
  pub members : (key : Key) (body : Body) → Contains rows (key, body) ↔ (live key ≡ Some body)
