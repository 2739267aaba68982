-- What a desk saves: a state that was read from a version of a STATE file, and that has gained
-- files, versions and horizons since.
use Rattle.std.specs.Prelude.{◌≡◌, ◌<◌, ℕ, List, [], ◌∷◌, length, slice_index_or, Some}
use Rattle.docker_model.specs.file.File.{most_records}
use Rattle.docker_model.specs.file.FileFault.{IsFileText}
use Rattle.docker_model.specs.records.Date.{IsDay}
use Rattle.docker_model.specs.state.State.{State, raise_horizon}
use Rattle.docker_model.specs.state.StateText.{dks_2, state_text}
use Rattle.docker_bytes.specs.SourceRead.{JoinsState, ReadsState}
use Rattle.docker_office.specs.Office.{TakesFile}
use Rattle.docker_cmd.specs.Prepared.{DeviceBytes, most_bytes}

-- a source held the text of this file
abbrev pub HoldsFile : DeviceBytes → List (List ℕ) → Type 0
HoldsFile bytes file = (text : List ℕ) × (bytes ≡ Some text) × IsFileText most_records text file

-- `earlier` has the texts of versions of STATE files, and a source held the text of the version
-- with this number
pub record HoldsVersion (earlier : List (List ℕ)) (bytes : DeviceBytes) (number : ℕ) : Type 0 where
  pub there : number < length earlier
  pub held : bytes ≡ Some (slice_index_or earlier number [])

-- one thing that a state can gain: a file, a version of any STATE file (given by its number in a
-- list of versions), or a horizon
pub data Gain : Type 0 where
  file_gained : (file : List (List ℕ)) → Gain
  version_gained : (number : ℕ) → Gain
  horizon_gained : (day : ℕ) → Gain

-- the old state became the new state by gaining one thing. To gain a file or a version in
-- `earlier`, whose text a source held, the old state was joined with the state of the file or of
-- the version. To gain a horizon, the old state's horizon was raised to this day
abbrev pub Gains : List (List ℕ) → Gain → State → State → Type 0
Gains earlier (file_gained file) old new =
    (held : DeviceBytes) × HoldsFile held file × TakesFile most_records held old new
Gains earlier (version_gained number) old new =
    (held : DeviceBytes) × HoldsVersion earlier held number × JoinsState dks_2 most_bytes held old new
Gains earlier (horizon_gained day) old new = IsDay day × (new ≡ raise_horizon day old)

-- the old state became the new state by gaining everything in the list `gains`, in order
abbrev pub AreGained : List (List ℕ) → List Gain → State → State → Type 0
AreGained earlier [] old new = new ≡ old
AreGained earlier (gain ∷ gains) old new =
    (next : State) × Gains earlier gain old next × AreGained earlier gains next new

-- this is the text of a state that was read from version number `own` of `earlier`, and that then
-- gained `gains`
pub record IsSaved (earlier : List (List ℕ)) (own : ℕ) (gains : List Gain) (text : List ℕ) : Type 0 where
  pub held : DeviceBytes
  pub holds : HoldsVersion earlier held own
  pub first : State
  pub reads : ReadsState dks_2 most_bytes held first
  pub last : State
  pub gained : AreGained earlier gains first last
  pub text_is : text ≡ state_text dks_2 last
