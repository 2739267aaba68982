-- The printed texts: a docker, and the list of a ledger's files. Days are from 0 to 36524.
use Rattle.std.specs.Prelude.{ℕ, List, codes, ◌++◌, ◌∷◌, Option, Some, [], ◌≡◌}
use Rattle.std.specs.List.{flat_map}
use Rattle.docker_model.specs.records.Record.{columns}
use Rattle.docker_model.specs.records.PrintedTime.{spaces, time_text, day_text, minute_text}
use Rattle.docker_model.specs.file.Journey.{Occasion, arrival, pass, joining, dividing, next_working, departure}
use Rattle.docker_model.specs.file.Change.{Body, tiploc_body, tiploc_key}
use Rattle.docker_model.specs.state.Stamp.{LedgerItem}
use Rattle.docker_model.specs.state.Table.{Table}
use Rattle.docker_model.specs.docker.DockerLine.{Detail, ends, partner, DockerLine}
use Rattle.docker_model.specs.docker.DockerList.{IsDockerList}

-- converts an occasion to the letter that is printed for it. For example, an arrival is printed as
-- `A`
abbrev pub occasion_text : Occasion → List ℕ
occasion_text arrival = codes "A"
occasion_text pass = codes "P"
occasion_text joining = codes "J"
occasion_text dividing = codes "V"
occasion_text next_working = codes "N"
occasion_text departure = codes "D"

-- the last 15 columns of a docker line: two TIPLOCs, or the associated train's UID and identity
abbrev pub detail_text : Detail → List ℕ
detail_text (ends origin destination) = origin ++ spaces 1 ++ destination
detail_text (partner uid identity) = uid ++ spaces 2 ++ identity ++ spaces 3

-- converts a docker line to its 56 printed columns
abbrev pub line_text : DockerLine → List ℕ
line_text line =
    time_text line.time ++ spaces 1 ++ occasion_text line.occasion ++ spaces 1 ++ line.identity ++ spaces 1 ++ line.uid
    ++ spaces 1 ++ line.indicator ∷ spaces 1 ++ line.suffix ∷ spaces 1 ++ line.platform ++ spaces 1 ++ line.track
    ++ spaces 1 ++ line.path ++ spaces 1 ++ line.public_time ++ spaces 1 ++ detail_text line.detail

-- the TPS description of a timing point, from the body of its TIPLOC key, or 26 spaces if there is
-- no body. The description is in columns 19 to 44 of a TIPLOC record. The body starts at column 10
-- of the record, so the description is in columns 10 to 35 of the body
abbrev pub description_in : Option Body → List ℕ
description_in (Some (tiploc_body bytes)) = columns 10 35 bytes
description_in _ = spaces 26

-- the 56 columns of a docker's heading: the place, the day and the place's TPS description. The day
-- must be from 0 to 36524
abbrev pub heading : Table → List ℕ → ℕ → List ℕ
heading live place day =
    codes "DOCKER " ++ place ++ spaces 1 ++ day_text day ++ spaces 1 ++ description_in (live (tiploc_key place)) ++ spaces 4

-- the last line of a docker: `END`, padded with spaces to 56 columns
abbrev pub last_line : List ℕ
last_line = codes "END" ++ spaces 53

-- the text, followed by a line feed
abbrev pub ended : List ℕ → List ℕ
ended text = text ++ 10 ∷ []

-- the docker's text: its heading, these lines and the last line, each followed by a line feed. The
-- day must be from 0 to 36524
abbrev pub docker_text : Table → List ℕ → ℕ → List DockerLine → List ℕ
docker_text live place day lines =
    ended (heading live place day) ++ flat_map (λ line. ended (line_text line)) lines ++ ended last_line

-- the text is the printed docker of a live table, for a place and a day from 0 to 36524
abbrev pub IsDockerText : Table → List ℕ → ℕ → List ℕ → Type 0
IsDockerText live place day text = (lines : List DockerLine) × IsDockerList live place day lines × (text ≡ docker_text live place day lines)

-- converts a ledger item to its 33 printed columns: the file's date, time, current reference,
-- update indicator and last reference
abbrev pub file_text : LedgerItem → List ℕ
file_text item =
    day_text item.stamp.moment.day ++ spaces 1 ++ minute_text item.stamp.moment.minute ++ spaces 1 ++ item.stamp.reference
    ++ spaces 1 ++ item.indicator ∷ spaces 1 ++ item.last_reference

-- the printed list of a ledger's files, with one line for each file
abbrev pub files_text : List LedgerItem → List ℕ
files_text ledger = flat_map (λ item. ended (file_text item)) ledger
