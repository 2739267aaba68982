-- A detailed docker: its timing point, its day, the timing point's description, and its lines. Each
-- line has the text of its origin beside it.
use Rattle.std.specs.Prelude.{◌≡◌, ℕ, List, ◌++◌, map, All}
use Rattle.std.specs.List.{flat_map}
use Rattle.docker_model.specs.file.Change.{tiploc_key}
use Rattle.docker_model.specs.state.Table.{Table}
use Rattle.docker_model.specs.docker.DockerLine.{DockerLine}
use Rattle.docker_model.specs.docker.DockerList.{IsDockerList}
use Rattle.docker_model.specs.docker.DockerText.{description_in, last_line, ended}
use Rattle.docker_model.specs.docker.DetailedText.{IsOrigin, detailed_line, padded}
use Rattle.docker_day.specs.DockerValue.{head}

pub record DetailedDocker : Type 0 where
  pub place : List ℕ
  pub day : ℕ
  pub description : List ℕ
  pub lines : List (DockerLine × List ℕ)

-- the text of a detailed docker: the heading, the docker's lines, each with its origin, and the
-- last line. Each line of the text has a line feed
abbrev pub text_of : DetailedDocker → List ℕ
text_of docker =
    ended (padded (head docker.place docker.day docker.description)) ++ flat_map (λ line. ended (detailed_line line)) docker.lines ++ ended (padded last_line)

-- says that this is the detailed docker of the place and the day. It has the place, the day, the
-- description of the place, and the docker list. Each line has its origin beside it
pub record IsDetailedOf (live : Table) (place : List ℕ) (day : ℕ) (docker : DetailedDocker) : Type 0 where
  pub place_is : docker.place ≡ place
  pub day_is : docker.day ≡ day
  pub described : docker.description ≡ description_in (live (tiploc_key place))
  pub list : IsDockerList live place day (map (λ (line : DockerLine × List ℕ). line.0) docker.lines)
  pub origins : All (λ (line : DockerLine × List ℕ). IsOrigin live place day line.0 line.1) docker.lines
