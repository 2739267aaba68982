-- The list of the live timing points, each with the number of live schedules that call there.
use Rattle.std.specs.Prelude.{◌≡◌, ℕ, Bool, false, List, [], ◌++◌, length, filter}
use Rattle.std.specs.List.{flat_map}
use Rattle.docker_model.specs.records.Record.{columns}
use Rattle.docker_model.specs.records.PrintedNumber.{number_text}
use Rattle.docker_model.specs.records.PrintedTime.{spaces}
use Rattle.docker_model.specs.file.Change.{Key, schedule_key, tiploc_key, Body, schedule_body, tiploc_body}
use Rattle.docker_model.specs.file.Journey.{calls_at}
use Rattle.docker_model.specs.state.Table.{Table}
use Rattle.docker_model.specs.state.Row.{Row, AreRowsOf}
use Rattle.docker_model.specs.docker.DockerText.{ended}

-- whether the row with this key and body is a schedule that calls at the place
abbrev pub is_call_at : List ℕ → Key → Body → Bool
is_call_at place (schedule_key key) (schedule_body lines) = calls_at place lines
is_call_at place _ _ = false

-- the number of these live rows that are schedules that call at the place
abbrev pub count_at : List ℕ → List Row → ℕ
count_at place rows = length (filter (λ (row : Row). is_call_at place row.0 row.1) rows)

-- the 55 columns of a timing point's line: TIPLOC, CRS, STANOX, TPS description and count. The body
-- `bytes` is columns 10 to 72 of the TIPLOC record. In that record, CRS is in columns 54 to 56,
-- STANOX in 45 to 49, and the description in 19 to 44
unfoldable pub place_text : List ℕ → List ℕ → ℕ → List ℕ
place_text code bytes count =
    code ++ spaces 1 ++ columns 45 47 bytes ++ spaces 1 ++ columns 36 40 bytes ++ spaces 1 ++ columns 10 35 bytes ++ spaces 1
    ++ number_text count

-- the line of a live key. Only a timing point has a line. `rows` are all live rows
abbrev pub place_line : List Row → Key → Body → List ℕ
place_line rows (tiploc_key code) (tiploc_body bytes) = ended (place_text code bytes (count_at code rows))
place_line _ _ _ = []

-- the lines of the timing points among these live rows, in the order of the rows
abbrev pub places_text : List Row → List ℕ
places_text rows = flat_map (λ (row : Row). place_line rows row.0 row.1) rows

-- says that this is the list of the timing points of a live table, in the order of their codes
pub record IsPlacesText (live : Table) (text : List ℕ) : Type 0 where
  pub rows : List Row
  pub are : AreRowsOf live rows
  pub text_is : text ≡ places_text rows
