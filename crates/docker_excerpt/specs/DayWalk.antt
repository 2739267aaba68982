-- A walk over a state's entries that skips the entries that can't count on a day, and shortens
-- schedules that call at the place on other days only.
use Rattle.std.specs.Prelude.{◌≡◌, List}
use Rattle.docker_model.specs.file.Change.{Key}
use Rattle.docker_model.specs.state.Op.{Entry}
use Rattle.docker_laws.specs.Thinning.{excerpt_entries}
use Rattle.docker_excerpt.specs.declared.day_walk.DayWalk.{DayWalk}
use Rattle.docker_excerpt.specs.ExcerptWalk.{HasWalked}

-- says that the walk has passed these entries. It has skipped the entries that can't count on its
-- day, has shortened the others, and has kept an excerpt of them
pub record HasPassed (walk : DayWalk) (entries : List (Key × Entry)) : Type 0 where
  pub near_is : walk.near.entries ≡ excerpt_entries walk.walk.place walk.day entries
  pub walked : HasWalked walk.walk walk.near.entries
