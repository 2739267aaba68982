-- The text of a detailed docker: each line of the docker is followed by the records that the line
-- was made from. Days are from 0 to 36524.
use Rattle.std.specs.Prelude.{◌≡◌, ℕ, ◌⊎◌, List, ◌++◌, take, filter, find, codes, Option, None, Some, unwrap_or}
use Rattle.std.specs.List.{AllZip, flat_map, last_or, zip}
use Rattle.docker_model.specs.records.PrintedNumber.{number_text}
use Rattle.docker_model.specs.records.PrintedTime.{spaces, day_text}
use Rattle.docker_model.specs.file.File.{first_record}
use Rattle.docker_model.specs.state.Table.{Table}
use Rattle.docker_model.specs.docker.Event.{Event, event_line, has_identity}
use Rattle.docker_model.specs.docker.DockerLine.{DockerLine}
use Rattle.docker_model.specs.docker.Association.{IsAssociationLine}
use Rattle.docker_model.specs.docker.DockerList.{IsDockerList, IsEventLine}
use Rattle.docker_model.specs.docker.DockerText.{ended, heading, last_line, line_text}

-- the 80 columns of a record, or 80 spaces if there is no record
abbrev pub record_text : Option (List ℕ) → List ℕ
record_text line = unwrap_or line (spaces 80)

-- the extra details (BX) of a schedule, or `None` if it has none
abbrev pub extra_record : List (List ℕ) → Option (List ℕ)
extra_record lines = find (λ line. has_identity (codes "BX") line) lines

-- the change en route (CR) that is in force at an event: the last one before the event's record. It
-- is `None` if there is no change before that record
abbrev pub change_at : List (List ℕ) → Event → Option (List ℕ)
change_at lines event = last_or None (filter (λ line. has_identity (codes "CR") line) (take event.place lines))

-- columns 57 to 483 of a detailed line: where the docker line comes from. A space comes before each
-- field. Columns 58 to 67 are the day on which the train starts. Columns 69 to 78 are the number of
-- the event, padded with spaces on the left. Each other field is a record of 80 columns, or spaces
-- if there is no such record. Column 80 begins the basic schedule (BS), and column 161 its extra
-- details (BX). Column 242 begins the change en route (CR) that is in force at the event. Column 323
-- begins the event's location record, and column 404 the association (AA). In the line of an
-- association, the start day, the schedule and the event belong to the base train
unfoldable pub origin_text : ℕ → List (List ℕ) → Event → Option (List ℕ) → List ℕ
origin_text start lines event association =
    spaces 1 ++ day_text start ++ spaces 1 ++ number_text event.number ++ spaces 1 ++ first_record lines ++ spaces 1
    ++ record_text (extra_record lines) ++ spaces 1 ++ record_text (change_at lines event) ++ spaces 1 ++ event_line lines event
    ++ spaces 1 ++ record_text association

-- `line` is the docker line of an event, and `origin` is where it comes from
pub record IsEventOrigin (live : Table) (place : List ℕ) (day : ℕ) (line : DockerLine) (origin : List ℕ) : Type 0 where
  pub line_is : IsEventLine live place day line
  pub origin_is : origin ≡ origin_text line_is.start line_is.schedule line_is.event None

-- `line` is a docker line of an association, and `origin` is where it comes from
pub record IsAssociationOrigin (live : Table) (place : List ℕ) (day : ℕ) (line : DockerLine) (origin : List ℕ) : Type 0 where
  pub line_is : IsAssociationLine live place day line
  pub origin_is : origin ≡ origin_text line_is.start line_is.base line_is.event (Some line_is.association)

-- `origin` is where the docker line comes from
abbrev pub IsOrigin : Table → List ℕ → ℕ → DockerLine → List ℕ → Type 0
IsOrigin live place day line origin = IsEventOrigin live place day line origin ⊎ IsAssociationOrigin live place day line origin

-- the 483 columns of a detailed line: the 56 columns of a docker line, and where the line comes
-- from
abbrev pub detailed_line : DockerLine × List ℕ → List ℕ
detailed_line line = line_text line.0 ++ line.1

-- a line of 56 columns, padded with spaces to 483 columns
abbrev pub padded : List ℕ → List ℕ
padded line = line ++ spaces 427

-- the text of a detailed docker: the heading, these docker lines, each with its origin, and the
-- last line. Each line of the text has 483 columns and a line feed. The day must be from 0 to 36524
abbrev pub detailed_text : Table → List ℕ → ℕ → List (DockerLine × List ℕ) → List ℕ
detailed_text live place day lines =
    ended (padded (heading live place day)) ++ flat_map (λ line. ended (detailed_line line)) lines ++ ended (padded last_line)

-- the text is the detailed docker of a live table, for a place and a day from 0 to 36524. It has the
-- lines of the docker, in the same order
pub record IsDetailedText (live : Table) (place : List ℕ) (day : ℕ) (text : List ℕ) : Type 0 where
  pub lines : List DockerLine
  pub docker : IsDockerList live place day lines
  pub origins : List (List ℕ)
  pub come_from : AllZip (IsOrigin live place day) lines origins
  pub text_is : text ≡ detailed_text live place day (zip lines origins)
