-- The values of excerpts. For the place and the day of an excerpt, the docker made from the kept
-- part of a state is the docker of the whole state.
use Rattle.std.specs.Prelude.{◌≡◌, ℕ, List, [], ◌∷◌, map}
use Rattle.docker_model.specs.docker.DockerLine.{DockerLine}
use Rattle.docker_model.specs.docker.DockerList.{IsDockerList}
use Rattle.docker_model.specs.docker.DockerText.{description_in}
use Rattle.docker_model.specs.file.Change.{Key, Change, tiploc_key}
use Rattle.docker_model.specs.state.Stamp.{ledger_item_of}
use Rattle.docker_model.specs.state.Summary.{entry_of}
use Rattle.docker_model.specs.state.Op.{Entry}
use Rattle.docker_model.specs.state.State.{State, IsValid, live_table}
use Rattle.docker_laws.specs.Excerpt.{IsExcerptState}
use Rattle.docker_laws.specs.FileSummary.{latest_entries}
use Rattle.docker_laws.specs.Thinning.{shortened}
use Rattle.cif_file.specs.FileRead.{FileRead}

-- the value of an excerpt that isn't finished: its place, its day, and the parts of the state that
-- were taken. The state's horizon isn't known yet
pub record Excerpting : Type 0 where
  pub place : List ℕ
  pub day : ℕ
  pub told : State

-- the value of a finished excerpt: its place, its day, and the whole state
pub record Excerpt : Type 0 where
  pub place : List ℕ
  pub day : ℕ
  pub state : State

-- the state with its entries replaced by these entries
abbrev pub with_entries : State → List (Key × Entry) → State
with_entries state entries = record { horizon = state.horizon; ledger = state.ledger; entries = entries }

-- the state made by a file's changes. It has the file's ledger item, and for each key the entry of
-- the last change to this key
abbrev pub state_of_read : FileRead → State
state_of_read file = record {
  horizon = 0;
  ledger = ledger_item_of (file.header_line ∷ []) ∷ [];
  entries = latest_entries (map (λ (change : Change). (change.key, entry_of (file.header_line ∷ []) change)) file.changes_made);
}

-- says that a docker made from `part` is correct for a state. For this place and day, `part` and the
-- state give the same description, and each docker list of `part` is a docker list of the state
pub record StandsAt (place : List ℕ) (day : ℕ) (state part : State) : Type 0 where
  pub described : description_in (live_table part (tiploc_key place)) ≡ description_in (live_table state (tiploc_key place))
  pub list : (lines : List DockerLine) → IsDockerList (live_table part) place day lines → IsDockerList (live_table state) place day lines

-- says that the state is valid, and that `part` is an excerpt for the place of the shortened state,
-- which has only the entries that may count on the day
pub record IsExcerptOf (place : List ℕ) (day : ℕ) (state part : State) : Type 0 where
  pub valid : IsValid state
  pub excerpt : IsExcerptState place (shortened place day state) part
