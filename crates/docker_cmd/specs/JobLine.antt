-- The job line: the first line of standard input, from which a program that was started without
-- words reads its words.
use Rattle.std.specs.Prelude.{◌≡◌, ℕ, ◌==◌, ◌≤◌, Bool, not, if◌then◌else◌, List, [], ◌∷◌, ◌++◌, length, filter, Option, Some, None, ⊤}
use Rattle.std.specs.List.{AllPass, slice_split}
use Rattle.docker_model.specs.records.Record.{is_printable}
use Rattle.cif_device.specs.Device.{Reads, IsEnd}
use Rattle.docker_cmd.specs.Job.{JobView, IsJobOf, NameNoJob}

-- these bytes can be a job line: there are at most 255, and all are printable
pub record IsLineText (line : List ℕ) : Type 0 where
  pub short : length line ≤ 255
  pub printable : AllPass is_printable line

-- the text begins with this job line and its line feed, and continues with the bytes `rest`
pub record IsJobLine (text line rest : List ℕ) : Type 0 where
  pub whole : text ≡ line ++ 10 ∷ rest
  pub line_text : IsLineText line

-- a job line was read from a source. If contracts can say which bytes the source held, it held the
-- line, the line feed, and then the bytes that are left in the source
abbrev pub ReadsLine : Option (List ℕ) → List ℕ → Option (List ℕ) → Type 0
ReadsLine None line new = IsLineText line
ReadsLine (Some text) line new = (rest : List ℕ) × IsJobLine text line rest × (new ≡ Some rest)

-- the source's bytes don't begin with a job line. The definition is also true if contracts can't
-- say which bytes the source holds
abbrev pub HasNoLine : Option (List ℕ) → Type 0
HasNoLine None = ⊤
HasNoLine (Some text) = (line rest : List ℕ) → ¬ IsJobLine text line rest

-- whether the byte is a space
abbrev pub is_space : ℕ → Bool
is_space byte = byte == 32

-- the words in a piece of a line: the piece itself, or no words if the piece is empty
abbrev pub word_or_none : List ℕ → List (List ℕ)
word_or_none piece = if length piece == 0 then [] else piece ∷ []

-- the words of a line: the pieces between its spaces, without the empty ones. For example, `a  b`
-- has the words `a` and `b`
abbrev pub words_in : List ℕ → List (List ℕ)
words_in line = filter (λ word. not (length word == 0)) (slice_split is_space line)

-- one byte was read from a source; None says that the source is at its end
abbrev pub ReadsByte : Option (List ℕ) → Option ℕ → Option (List ℕ) → Type 0
ReadsByte old None new = IsEnd old × (new ≡ old)
ReadsByte old (Some byte) new = Reads old (byte ∷ []) new

-- a job line that names this job was read from a source. If contracts can say which bytes the
-- source held, it held the line, the line feed, and then the bytes that are left in the source
abbrev pub ReadsJob : Option (List ℕ) → JobView → Option (List ℕ) → Type 0
ReadsJob old job new = (line : List ℕ) × ReadsLine old line new × IsJobOf (words_in line) job

-- the source's bytes don't begin with a job line that names a job. The definition is also true if
-- contracts can't say which bytes the source holds
abbrev pub HasNoJob : Option (List ℕ) → Type 0
HasNoJob None = ⊤
HasNoJob (Some text) = (line rest : List ℕ) → IsJobLine text line rest → NameNoJob (words_in line)

-- the source's bytes begin with a job line that names a job. The definition is also true if
-- contracts can't say which bytes the source holds
abbrev pub HasJob : Option (List ℕ) → Type 0
HasJob None = ⊤
HasJob (Some text) = (line : List ℕ) × ((rest : List ℕ) × (IsJobLine text line rest × (¬ NameNoJob (words_in line))))

-- at most `most` bytes were read from the source
pub record ReadsAtMost (most : ℕ) (old new : Option (List ℕ)) : Type 0 where
  pub lost : List ℕ
  pub few : length lost ≤ most
  pub read : Reads old lost new
