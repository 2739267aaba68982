-- Defines the number of live schedules that call at a place.
use Rattle.std.specs.Prelude.{◌≡◌, ℕ, List, length}
use Rattle.docker_model.specs.state.Table.{Table}
use Rattle.docker_model.specs.state.Row.{Row}
use Rattle.state_laws.specs.Index.{AreCalling}

-- Says that this many live schedules call at the place.
abbrev pub IsCallingCount : Table → List ℕ → ℕ → Type 0
IsCallingCount live place count = (rows : List Row) × AreCalling live place rows × (length rows ≡ count)
