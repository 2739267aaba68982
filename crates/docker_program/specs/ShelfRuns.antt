-- What commands leave on a shelf, a folder in memory. Contracts can say which texts its files hold.
use Rattle.std.specs.Prelude.{◌≡◌, List, [], ◌∷◌, ℕ, Some, codes}
use Rattle.docker_model.specs.file.File.{most_records}
use Rattle.docker_model.specs.file.FileFault.{IsFileText}
use Rattle.docker_model.specs.state.StateText.{dks_2}
use Rattle.docker_model.specs.run.Run.{Known, united}
use Rattle.docker_cmd.specs.Prepared.{ReadsFewOfState}
use Rattle.docker_host.specs.History.{Event, Text, closed, drafted, looked, opened, placed}
use Rattle.docker_program.specs.Commands.{IsKnownText, of_file}

-- the names of the STATE file and of the extract on the shelf
abbrev pub state_name : Text
state_name = codes "STATE"

abbrev pub file_name : Text
file_name = codes "FILE"

-- these are the events of a shelf after a STATE file and an extract were added and `take` was run.
-- `take` looked at STATE. This look is event 2, counted from 0. Then `take` opened STATE and the
-- extract, which held the two given texts. It read STATE no further than the result needs, and the
-- extract to its end. Then it stored a text: a draft that is based on the look replaced STATE. If
-- STATE held the text of the summary of some files, the stored text is the text of the summary of
-- these files and the extract
pub record IsTaken (state extract : List ℕ) (events : List Event) : Type 0 where
  pub text : List ℕ
  pub left : List ℕ
  pub few : ReadsFewOfState dks_2 (Some state) (Some left)
  pub history : events ≡ placed state_name (Some state) ∷ placed file_name (Some extract)
      ∷ looked state_name ∷ opened state_name (Some state) ∷ opened file_name (Some extract)
      ∷ closed (Some left) ∷ closed (Some [])
      ∷ drafted state_name 2 ∷ placed state_name (Some text) ∷ []
  pub known : (known : Known) (file : List (List ℕ)) → IsKnownText dks_2 known state
      → IsFileText most_records extract file → IsKnownText dks_2 (united known (of_file file)) text
