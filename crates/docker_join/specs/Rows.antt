-- The rows of a table: each is a key with a value, such as an entry.
use Rattle.std.specs.Prelude.{◌≡◌, List, Option, Some, None, find, All}
use Rattle.std.specs.Option.{option_map}
use Rattle.std.specs.declared.cmp.Ordering.{Ordering}
use Rattle.std.specs.Ordering.{is_eq}
use Rattle.docker_model.specs.file.Change as model
use Rattle.docker_model.specs.state.Op.{key_cmp}
use Rattle.docker_model.specs.state.Order.{IsStrictlyAscending}
use Rattle.cif_change.specs.declared.key.Key.{Key}
use Rattle.cif_change.specs.Meaning.{key_meant}

-- the order of rows by their keys
abbrev pub row_cmp : {E : Type 0} → Key × E → Key × E → Ordering
row_cmp a b = key_cmp (key_meant a.0) (key_meant b.0)

-- Says that the keys of the rows are strictly increasing.
abbrev pub AreAscending : {E : Type 0} → List (Key × E) → Type 0
AreAscending rows = IsStrictlyAscending row_cmp rows

-- the value of the first row with this key, or `None` if no row has it
abbrev pub value_at : {E : Type 0} → List (Key × E) → model.Key → Option E
value_at rows key = option_map (λ row. row.1) (find (λ row. is_eq (key_cmp (key_meant row.0) key)) rows)

-- the joined value of two tables at a key: the join of both values, or the only value, or `None` if
-- neither table has the key
abbrev pub picked_value : {E : Type 0} → (E → E → E) → Option E → Option E → Option E
picked_value picked None other = other
picked_value picked (Some value) None = Some value
picked_value picked (Some value) (Some other) = Some (picked value other)

-- Says that a list of rows is the join of two tables: the rows ascend, and the value at each key is
-- the join of the two tables' values there.
pub record IsJoinOfRows {E : Type 0} (picked : E → E → E) (first second joined : List (Key × E)) : Type 0 where
  pub ascends : AreAscending joined
  pub values : (key : model.Key) → value_at joined key ≡ picked_value picked (value_at first key) (value_at second key)

-- Says that the keys of the rows ascend and that each value is valid.
abbrev pub AreValidRows : {E : Type 0} → (E → Type 0) → List (Key × E) → Type 0
AreValidRows valid rows = AreAscending rows × All (λ row. valid row.1) rows
