-- The excerpt of a state for a place and a day.
use Rattle.std.specs.Prelude.{◌≡◌, ℕ, List}
use Rattle.docker_model.specs.state.State.{State}
use Rattle.docker_excerpt.specs.Values.{Excerpt}

-- says that the excerpt is of this state, for this place and this day
abbrev pub IsExcerptAt : List ℕ → ℕ → Excerpt → State → Type 0
IsExcerptAt place day excerpt state = excerpt ≡ record { place = place; day = day; state = state }
