-- A text whose bytes are still being read: its line feeds, and the incomplete line after the
-- complete lines.
use Rattle.std.specs.Prelude.{◌≡◌, ℕ, List, false, All, map, ◌==◌, count_by}
use Rattle.std.specs.Str.Lines.{strip_carriage_return}
use Rattle.docker_model.specs.records.Record.{Lines}
use Rattle.docker_model.specs.file.Text.{pieces_of, last_piece}
use Rattle.docker_model.specs.file.FaultSoFar.{last_of}

-- the bytes contain no line feed
abbrev pub HasNoFeed : List ℕ → Type 0
HasNoFeed bytes = All (λ b. (b == 10) ≡ false) bytes

-- the number of line feeds in the text
abbrev pub feeds : List ℕ → ℕ
feeds text = count_by (λ b. b == 10) text

-- the incomplete line: the bytes after the last line feed
abbrev pub open_line : List ℕ → List ℕ
open_line text = last_of (pieces_of text)

-- the line that the last piece of a text contains, as a list of one line: the piece without a
-- carriage return at its end. If the piece is empty, the list is empty
abbrev pub line_left : List ℕ → Lines
line_left piece = map strip_carriage_return (last_piece piece)
