-- Defines which entries a keeper keeps if entries lapse as it is given them.
use Rattle.std.specs.Prelude.{◌≡◌, ℕ, List}
use Rattle.docker_model.specs.file.Change.{Key}
use Rattle.docker_model.specs.state.Op.{Entry}
use Rattle.docker_model.specs.state.Lapse.{lapse_entries}
use Rattle.docker_model.specs.state.State.{State}

-- says that the keeper's day is `day`, and that `parts` has the entries that the keeper was given,
-- after they have lapsed with the horizon `day`
pub record HasLapsed (day own : ℕ) (parts : State) (given : List (Key × Entry)) : Type 0 where
  pub day_is : own ≡ day
  pub entries : parts.entries ≡ lapse_entries day given
