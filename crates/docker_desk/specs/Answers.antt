-- The bytes of an answer: a header with the size of the text, and then the text.
use Rattle.std.specs.Prelude.{ℕ, ◌+◌, ◌==◌, if◌then◌else◌, List, [], ◌∷◌, ◌++◌, length, codes, decimal}

-- the number of line feeds in a text. If each line of the text is whole, this is the number of
-- lines
abbrev pub line_count : List ℕ → ℕ
line_count [] = 0
line_count (byte ∷ bytes) = if byte == 10 then 1 + line_count bytes else line_count bytes

-- the header of an answer, in decimal: its status, and the numbers of lines and bytes of its text.
-- For example, the header for status 0 and one line of 42 bytes is `0 1 42` with a line feed
abbrev pub header_text : (status lines bytes : ℕ) → List ℕ
header_text status lines bytes =
    decimal status ++ codes " " ++ decimal lines ++ codes " " ++ decimal bytes ++ codes "\n"

-- the bytes of the answer with this status and this text
abbrev pub answer_text : ℕ → List ℕ → List ℕ
answer_text status text = header_text status (line_count text) (length text) ++ text

-- a page in memory: the bytes written on it, and how often writing on it has failed
pub record PageView : Type 0 where
  pub text : List ℕ
  pub failures : ℕ
