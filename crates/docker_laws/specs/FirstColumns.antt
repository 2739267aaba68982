-- The width of a text's lines, and their first columns, as the program `cut` prints them.
use Rattle.std.specs.Prelude.{ℕ, ◌≡◌, ◌≤◌, ◌+◌, ◌==◌, nat_lt, if◌then◌else◌, List, [], ◌∷◌, All, length}
use Rattle.std.specs.List.{flat_map}
use Rattle.docker_model.specs.docker.DockerText.{ended}

-- the first `count` columns of each line of a text, each with the line's line feed. The text begins
-- within a line, after this number of columns of the line
abbrev pub columns_from : ℕ → ℕ → List ℕ → List ℕ
columns_from count column [] = []
columns_from count column (byte ∷ bytes) =
    if byte == 10 then 10 ∷ columns_from count 0 bytes
    else (if nat_lt column count then byte ∷ columns_from count (column + 1) bytes else columns_from count (column + 1) bytes)

-- the first `count` columns of each line of a text, each with the line's line feed. For example, the
-- first 2 columns of the lines `one` and `two` are the lines `on` and `tw`. The command
-- `cut -c1-2` prints them
abbrev pub first_columns : ℕ → List ℕ → List ℕ
first_columns count text = columns_from count 0 text

-- the text consists of lines of this width, each with a line feed. A line has no line feed, since
-- each of its bytes is at least 32
pub record HasWidth (width : ℕ) (text : List ℕ) : Type 0 where
  pub lines : List (List ℕ)
  pub wide : All (λ line. length line ≡ width) lines
  pub plain : All (All (λ byte. 32 ≤ byte)) lines
  pub text_is : text ≡ flat_map ended lines
