-- The line of a state's entry in the list of timing points.
use Rattle.std.specs.Prelude.{ℕ, List, []}
use Rattle.docker_model.specs.file.Change.{Key}
use Rattle.docker_model.specs.state.Op.{Op, deleted, lapsed, put_with, Entry}
use Rattle.docker_model.specs.state.Row.{Row}
use Rattle.docker_model.specs.lists.PlacesText.{place_line}

-- the line of a key with this op. Only a live timing point has a line. `rows` are all live rows
abbrev pub line_by : List Row → Key → Op → List ℕ
line_by rows key deleted = []
line_by rows key lapsed = []
line_by rows key (put_with body) = place_line rows key body

-- the line of an entry. Only a live timing point has a line. `rows` are all live rows
abbrev pub row_line : List Row → Key × Entry → List ℕ
row_line rows entry = line_by rows entry.0 entry.1.op
