-- A text that consists of given records: each record with its line end.
use Rattle.std.specs.Prelude.{◌≡◌, ℕ, ◌⊎◌, List, [], ◌∷◌, ◌++◌}

-- these bytes end a line: a line feed, or a carriage return and a line feed
abbrev pub IsLineEnd : List ℕ → Type 0
IsLineEnd bytes = (bytes ≡ 10 ∷ []) ⊎ (bytes ≡ 13 ∷ 10 ∷ [])

-- these bytes may follow the last record: a line end, a carriage return without a line feed, or
-- nothing
abbrev pub IsLastLineEnd : List ℕ → Type 0
IsLastLineEnd bytes = IsLineEnd bytes ⊎ (bytes ≡ 13 ∷ []) ⊎ (bytes ≡ [])

-- the text consists of these records in order, each with its line end. The last record needs no
-- line end
abbrev pub IsTextOf : List (List ℕ) → List ℕ → Type 0
IsTextOf [] text = text ≡ []
IsTextOf (line ∷ []) text = (end : List ℕ) × IsLastLineEnd end × (text ≡ line ++ end)
IsTextOf (line ∷ next ∷ lines) text =
    (end : List ℕ) × (rest : List ℕ) × IsLineEnd end × (text ≡ line ++ end ++ rest) × IsTextOf (next ∷ lines) rest
