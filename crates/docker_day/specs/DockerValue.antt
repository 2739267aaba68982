-- A docker: its timing point, its day, the timing point's description, and its lines.
use Rattle.std.specs.Prelude.{ℕ, List, ◌++◌, codes}
use Rattle.std.specs.List.{flat_map}
use Rattle.docker_model.specs.docker.DockerLine.{DockerLine}
use Rattle.docker_model.specs.records.PrintedTime.{spaces, day_text}
use Rattle.docker_model.specs.docker.DockerText.{line_text, last_line, ended}

pub record Docker : Type 0 where
  pub place : List ℕ
  pub day : ℕ
  pub description : List ℕ
  pub lines : List DockerLine

-- the text of a docker's heading, without a line feed
unfoldable pub head : List ℕ → ℕ → List ℕ → List ℕ
head place day description = codes "DOCKER " ++ place ++ spaces 1 ++ day_text day ++ spaces 1 ++ description ++ spaces 4

-- the text of a docker: the heading, the docker's lines and the last line, each with a line feed
abbrev pub text_of : Docker → List ℕ
text_of docker = ended (head docker.place docker.day docker.description) ++ flat_map (λ line. ended (line_text line)) docker.lines ++ ended last_line
