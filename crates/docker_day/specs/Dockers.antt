-- The docker of a timing point and a day, made from a live table.
use Rattle.std.specs.Prelude.{◌≡◌, ℕ, List}
use Rattle.docker_model.specs.file.Change.{tiploc_key}
use Rattle.docker_model.specs.state.Table.{Table}
use Rattle.docker_model.specs.docker.DockerList.{IsDockerList}
use Rattle.docker_model.specs.docker.DockerText.{description_in}
use Rattle.docker_model.specs.docker.DockerLine.{DockerLine}
use Rattle.docker_model.specs.state.Row.{Row}
use Rattle.docker_laws.specs.Gathering.{IsWalk, gathered}
use Rattle.docker_day.specs.Lines.{Adds}
use Rattle.docker_day.specs.DockerValue.{Docker}

-- says that this is the docker of the place and the day: the docker has the place, the day, the
-- description of the place, and the docker list
pub record IsDockerOf (live : Table) (place : List ℕ) (day : ℕ) (docker : Docker) : Type 0 where
  pub place_is : docker.place ≡ place
  pub day_is : docker.day ≡ day
  pub described : docker.description ≡ description_in (live (tiploc_key place))
  pub list : IsDockerList live place day docker.lines

-- says that `after` is `before` with the docker lines of a walk's rows appended. The walk includes
-- every association at the place and every schedule that calls there
abbrev pub HasGathered : Table → List ℕ → ℕ → List DockerLine → List DockerLine → Type 0
HasGathered live place day before after =
    (rows : List Row) × IsWalk live place rows × Adds live (λ trains links. gathered trains links place day rows) before after
