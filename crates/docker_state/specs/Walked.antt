-- The rows of a walk over the live rows at a place.
use Rattle.std.specs.Prelude.{List}
use Rattle.docker_model.specs.state.Row.{Row}
use Rattle.docker_state.specs.declared.place_rows.Walk.{Walk}
use Rattle.docker_state.specs.declared.place_rows.Walk.TheVariants.{Indexed, Sifted}

-- the rows of a walk, whether the walk uses an index or reads all rows
abbrev pub rows_walked : Walk → List Row
rows_walked (Indexed rows) = rows
rows_walked (Sifted rows) = rows
