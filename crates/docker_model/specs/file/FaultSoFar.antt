-- The fault that the first bytes of a text determine, whatever bytes follow them.
use Rattle.std.specs.Prelude.{ℕ, ◌+◌, ◌≤◌, ◌==◌, nat_le, if◌then◌else◌, List, [], ◌∷◌, length, count_by}
use Rattle.docker_model.specs.file.Text.{pieces_of, lines_of}
use Rattle.docker_model.specs.file.FileFault.{FileFault, IsRecordFault}

-- the last of these pieces, or no bytes if there are no pieces
abbrev pub last_of : List (List ℕ) → List ℕ
last_of [] = []
last_of (piece ∷ []) = piece
last_of (piece ∷ next ∷ pieces) = last_of (next ∷ pieces)

-- how many lines are already certain, in a text that is still being read. A line is certain once
-- its line feed has been read. A line of more than 81 bytes is certain even without a line feed.
-- Such a line is too long for a record, even if its last byte is a carriage return. For example,
-- the text `HD` has no certain line, and `HD` with a line feed has one
abbrev pub sure_lines : List ℕ → ℕ
sure_lines text =
    count_by (λ b. b == 10) text + (if nat_le 82 (length (last_of (pieces_of text))) then 1 else 0)

-- these bytes determine this fault: the line at fault is already certain, as counted by
-- `sure_lines`. Every text that begins with these bytes has the same fault
pub record IsFaultSoFar (limit : ℕ) (text : List ℕ) (fault : FileFault) : Type 0 where
  pub is : IsRecordFault limit (lines_of text) fault
  pub told : fault.number ≤ sure_lines text
