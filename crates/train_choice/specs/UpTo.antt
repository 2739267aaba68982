-- The lines of a schedule up to its last line at a place, and the events of these lines.
use Rattle.std.specs.Prelude.{Bool, if◌then◌else◌, List, [], ◌∷◌, ℕ}
use Rattle.std.specs.Str.{bytes_eq}
use Rattle.docker_model.specs.records.Record.{columns}
use Rattle.docker_model.specs.file.File.{first_record}
use Rattle.train_choice.specs.Occurrences.{Occurrence, before_all, occurrences_from}

-- whether the place is in columns 3 to 9 of the line, where a location record has its TIPLOC
abbrev pub names_place : List ℕ → List ℕ → Bool
names_place place line = bytes_eq (columns 3 9 line) place

-- prepends a line to later lines. If there are no later lines, the line is kept only if it is at
-- the place
abbrev pub before_named : Bool → List ℕ → List (List ℕ) → List (List ℕ)
before_named named line [] = if named then line ∷ [] else []
before_named named line (next ∷ rest) = line ∷ next ∷ rest

-- the lines up to and including the last line at the place. For example, of lines at A, B, C, B and
-- D, the lines up to the last line at B are the first four
abbrev pub up_to_last : List ℕ → List (List ℕ) → List (List ℕ)
up_to_last place [] = []
up_to_last place (line ∷ lines) = before_named (names_place place line) line (up_to_last place lines)

-- the events of a schedule up to its last line at the place
abbrev pub occurrences_to : List ℕ → List (List ℕ) → List Occurrence
occurrences_to place lines = occurrences_from (before_all (first_record lines)) (up_to_last place lines)
