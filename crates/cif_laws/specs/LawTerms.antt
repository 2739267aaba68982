-- A property of bytes that several laws use.
use Rattle.std.specs.Prelude.{ℕ, ◌≤◌, List, length, take}
use Rattle.docker_model.specs.file.File.{BeginsFile}
use Rattle.docker_model.specs.file.Text.{lines_of}
use Rattle.docker_model.specs.file.FaultSoFar.{sure_lines}
use Rattle.cif_laws.specs.CompleteLines.{open_line}

-- the bytes may be a prefix of a file within the limit. Their complete lines begin some file and
-- are within the limit, and at most 81 bytes follow the last line feed
abbrev pub BeginsWithin : ℕ → List ℕ → Type 0
BeginsWithin limit text = BeginsFile (take (sure_lines text) (lines_of text)) × (sure_lines text ≤ limit) × (length (open_line text) ≤ 81)
