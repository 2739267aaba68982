-- What is found for a docker line: the records of its schedule and of its association.
use Rattle.std.specs.Prelude.{◌≡◌, ℕ, List, [], Option, Some, None, option_map, map, All}
use Rattle.std.specs.List.Sorted.{IsPermutation, IsSorted}
use Rattle.docker_model.specs.state.Table.{Table}
use Rattle.docker_model.specs.state.Row.{Row, AreRowsOf}
use Rattle.docker_model.specs.docker.Choice.{Group, Train}
use Rattle.docker_model.specs.docker.DockerLine.{DockerLine, Detail, ends, partner, docker_line_cmp}
use Rattle.docker_laws.specs.LiveRows.{Link, train_in, link_in}
use Rattle.docker_detail.specs.Records.{records_of}
use Rattle.docker_detail.specs.OriginText.{found_text}

-- the records of a train's schedule, or none if there is no train
abbrev pub records_of_train : Option Train → List (List ℕ)
records_of_train None = []
records_of_train (Some train) = train.lines

-- the record of the association that belongs to a docker line with this end. `links` returns the
-- association chosen in a group for a start day
abbrev pub association_by : (Group → ℕ → Option Link) → List ℕ → ℕ → ℕ → List ℕ → Detail → Option (List ℕ)
association_by links base suffix start place (ends origin destination) = None
association_by links base suffix start place (partner uid identity) =
    option_map (λ (link : Link). link.line)
    (links (record { base = base; associated = uid; location = place; suffix = suffix }) start)

-- the text of a docker line's origin. `trains` returns the train of a UID that starts on a day, and
-- `links` the association chosen in a group for a start day
abbrev pub origin_by : (List ℕ → ℕ → Option Train) → (Group → ℕ → Option Link) → List ℕ → DockerLine → List ℕ
origin_by trains links place line =
    found_text line.start line.number (records_of (records_of_train (trains line.uid line.start)) line.number)
    (association_by links line.uid line.suffix line.start place line.detail)

-- a docker line, and the text of its origin
abbrev pub Detailed : Type 0
Detailed = DockerLine × List ℕ

-- the docker lines, without their origins
abbrev pub firsts : List Detailed → List DockerLine
firsts lines = map (λ (line : Detailed). line.0) lines

-- says that this text is the origin of the docker line, whatever the rows of the table
abbrev pub IsLineFound : Table → List ℕ → Detailed → Type 0
IsLineFound live place line = (rows : List Row) → AreRowsOf live rows → line.1 ≡ origin_by (train_in rows) (link_in rows) place line.0

-- says that these are the docker lines, each with its origin, in the order of a docker
pub record AreFound (live : Table) (place : List ℕ) (lines : List DockerLine) (detailed : List Detailed) : Type 0 where
  pub same : IsPermutation lines (firsts detailed)
  pub sorted : IsSorted docker_line_cmp (firsts detailed)
  pub found : All (IsLineFound live place) detailed
