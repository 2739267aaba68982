-- The steps of joining two tables: rows are placed from the greatest key to the smallest. The rows
-- of the first table are in a ring buffer (`VecDeque`). The buffer's first rows are the placed
-- rows, and its last rows are still to be placed.
use Rattle.std.specs.Prelude.{◌≡◌, ℕ, ◌+◌, ◌-◌, ◌<◌, ◌≤◌, Bool, true, false, List, Option, Some, None, [], ◌∷◌, ◌++◌, length, take, drop, slice_index_or}
use Rattle.std.specs.declared.cmp.Ordering.TheVariants.{Equal}
use Rattle.std.specs.Ordering.{is_eq, is_gt}
use Rattle.docker_model.specs.file.Change as model
use Rattle.docker_model.specs.state.Op.{key_cmp}
use Rattle.cif_change.specs.declared.key.Key.{Key}
use Rattle.cif_change.specs.Meaning.{key_meant}
use Rattle.docker_join.specs.Rows.{AreAscending, IsJoinOfRows}

-- whether a row is above the key. The row is given by its distance `back` from the end of `n` rows.
-- The distance is 1 for the last row
abbrev pub is_above_at : {E : Type 0} → model.Key → List (Key × E) → ℕ → ℕ → Key × E → Bool
is_above_at key rows n back d = is_gt (key_cmp (key_meant (slice_index_or rows (n - back) d).0) key)

-- whether the last of `n` rows has the key
abbrev pub is_level_at : {E : Type 0} → model.Key → List (Key × E) → ℕ → Key × E → Bool
is_level_at key rows n d = is_eq (key_cmp (key_meant (slice_index_or rows (n - 1) d).0) key)

-- Says of ascending rows that among the last `left` of `n` rows exactly the last `run` are above the key. For example, if three rows have the keys 1, 5 and 7,
-- then `run` is 2 for the key 3.
pub record IsRunAbove {E : Type 0} (key : model.Key) (rows : List (Key × E)) (n left run : ℕ) : Type 0 where
  pub within : run ≤ left
  pub above : (d : Key × E) → 0 < run → is_above_at key rows n run d ≡ true
  pub below : (d : Key × E) → run < left → is_above_at key rows n (run + 1) d ≡ false

-- Says what taking the last row of a ring buffer does. If a row is left to be placed and the last
-- row has the key, the last row was removed. Otherwise no row was taken, and the ring buffer is
-- unchanged.
abbrev pub IsTaken : {E : Type 0} → model.Key → ℕ → ℕ → List (Key × E) → List (Key × E) → Option (Key × E) → Type 0
IsTaken key n left old new None = (new ≡ old) × ((d : _) → 0 < left → is_level_at key old n d ≡ false)
IsTaken key n left old new (Some own) = (old ≡ new ++ own ∷ []) × ((key_cmp (key_meant own.0) key ≡ Equal) × (0 < left))

-- the rows of the first table that aren't placed yet, which are the last rows of the ring buffer
abbrev pub left_rows : {E : Type 0} → ℕ → List (Key × E) → List (Key × E)
left_rows left rows = drop (length rows - left) rows

-- Says that the placed rows are right: the join of the remaining rows of both tables, followed by
-- the placed rows, is the join of the two tables.
pub record IsJoinWith {E : Type 0} (picked : E → E → E) (first second : List (Key × E)) (left : ℕ) (rows rest : List (Key × E)) : Type 0 where
  pub joins : (lower : List (Key × E)) → IsJoinOfRows picked (left_rows left rows) rest lower
      → IsJoinOfRows picked first second (lower ++ take (length rows - left) rows)

-- Says that a row of the second table was placed. If the placed rows were right before, they are
-- still right after this row moved from the remaining rows to the placed rows.
pub record IsPlaced {E : Type 0} (picked : E → E → E) (old : List (Key × E)) (left : ℕ) (row : Key × E) (new : List (Key × E)) (later : ℕ) : Type 0 where
  pub ascends : AreAscending (left_rows left old) → AreAscending (left_rows later new)
  pub joined : AreAscending (left_rows left old) → (first second rest : List (Key × E)) → AreAscending (rest ++ row ∷ [])
      → IsJoinWith picked first second left old (rest ++ row ∷ []) → IsJoinWith picked first second later new rest
