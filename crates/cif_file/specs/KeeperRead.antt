-- Defines what a keeper holds after each of its calls.
use Rattle.std.specs.Prelude.{◌≡◌, ℕ, ◌<◌, List, [], ◌∷◌, ◌++◌, length, if◌then◌else◌}
use Rattle.docker_model.specs.records.Field.{as_new}
use Rattle.docker_model.specs.file.File.{IsSchedule}
use Rattle.docker_model.specs.file.Change.{Change, changes_of_record, schedule_body, delete, put}
use Rattle.cif_change.specs.declared.key.Key.TheVariants as key
use Rattle.cif_change.specs.JourneyRead.{progress_meant, HasLines}
use Rattle.cif_file.specs.declared.keeper.opened.Opened.{Opened}
use Rattle.cif_file.specs.declared.keeper.kept.FileSoFar.{FileSoFar}
use Rattle.cif_file.specs.MadeChanges.{HasMade}
use Rattle.cif_file.specs.declared.keeper.counting.CountingKeeper.{CountingKeeper}
use Rattle.cif_change.specs.Meaning.{key_meant}

abbrev Lines : Type 0
Lines = List (List ℕ)

-- a relation between a keeper, the lines of the schedule that is being read, and the changes that
-- the keeper has received. The relation says which of these lines and changes the keeper holds.
abbrev pub Keeps : Type 0 → Type 1
Keeps K = K → Lines → List Change → Type 0

-- a list of lines, with the transaction of its first line set to N
abbrev pub with_new_first : Lines → Lines
with_new_first [] = []
with_new_first (basic ∷ others) = as_new basic ∷ others

-- the change of a schedule with these lines, of which the first already has the transaction N
abbrev pub change_renewed : Opened → Lines → Change
change_renewed opened lines = record {
  number = opened.number;
  key = key_meant (key.Schedule opened.key);
  act = if (progress_meant opened.progress).deletion then delete else put (schedule_body lines);
}

-- the change of a schedule whose lines in the file are these lines
abbrev pub change_opened : Opened → Lines → Change
change_opened opened lines = change_renewed opened (with_new_first lines)

-- Says that the keeper has received this basic schedule, with which a schedule begins.
abbrev pub Begins : {K : Type 0} → Keeps K → K → List ℕ → K → Type 0
Begins keeps old basic new = (made : List Change) → keeps old [] made → keeps new (basic ∷ []) made

-- Says that the keeper has received a further line of the schedule that is being read.
abbrev pub AddsLine : {K : Type 0} → Keeps K → K → List ℕ → K → Type 0
AddsLine keeps old line new =
    (basic : List ℕ) (others : Lines) (made : List Change) → keeps old (basic ∷ others) made → keeps new (basic ∷ others ++ line ∷ []) made

-- Says that the keeper has made the change of the schedule whose lines it held, and now holds no
-- lines.
abbrev pub Closes : {K : Type 0} → Keeps K → K → Opened → K → Type 0
Closes keeps old opened new =
    (lines : Lines) (made : List Change) → HasLines (progress_meant opened.progress) lines → IsSchedule lines → keeps old lines made
    → keeps new [] (made ++ change_opened opened lines ∷ [])

-- Says that the keeper has made the changes of a record that is a unit by itself.
abbrev pub AddsSingle : {K : Type 0} → Keeps K → K → ℕ → List ℕ → K → Type 0
AddsSingle keeps old number line new =
    (lines : Lines) (made : List Change) → keeps old lines made → keeps new lines (made ++ changes_of_record number line [])

-- Says that a `FileSoFar` holds exactly these lines, with the transaction of the first set to N,
-- and exactly these changes.
abbrev pub KeepsAll : FileSoFar → Lines → List Change → Type 0
KeepsAll kept lines changes = (kept.lines.items ≡ with_new_first lines) × HasMade kept.made changes

-- Says that a `CountingKeeper` has counted exactly these changes, if their number fits in 64 bits.
abbrev pub CountsChanges : CountingKeeper → Lines → List Change → Type 0
CountsChanges tally lines made = length made < 18_446_744_073_709_551_616 → tally.changes ≡ length made
