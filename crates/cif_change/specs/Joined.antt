-- The bytes of several lines that are still to be read.
use Rattle.std.specs.Prelude.{ℕ, List, ◌++◌}
use Rattle.std.specs.List.{concat}
use Rattle.cif_change.specs.declared.joined.Joined.{Joined}

-- the bytes that are still to be read: the rest of the current line, and then all bytes of the
-- lines after it
abbrev pub joined_bytes : Joined → List ℕ
joined_bytes bytes = bytes.front.now ++ concat bytes.lines.now
