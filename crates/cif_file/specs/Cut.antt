-- Texts that are cut at a line end.
use Rattle.std.specs.Prelude.{◌≡◌, ℕ, ◌-◌, ◌⊎◌, List, ◌∷◌, ◌++◌, length, take}
use Rattle.cif_laws.specs.CompleteLines.{HasNoFeed}

-- Says that a text consists of the bytes `front`, a line feed, and the bytes `rest`. The bytes
-- `front` contain no line feed.
pub record IsCut (text front rest : List ℕ) : Type 0 where
  pub whole : text ≡ front ++ 10 ∷ rest
  pub plain : HasNoFeed front

-- Says that a text consists of a line end and the bytes `rest`. A line end is a line feed, or a
-- carriage return and a line feed.
abbrev pub BeginsWithEnd : List ℕ → List ℕ → Type 0
BeginsWithEnd text rest = (text ≡ 10 ∷ rest) ⊎ (text ≡ 13 ∷ 10 ∷ rest)

-- Says that a text consists of a line of 80 bytes, a line end, and the bytes `rest`.
pub record BeginsWithEighty (text line rest : List ℕ) : Type 0 where
  pub eighty : length line ≡ 80
  pub after : List ℕ
  pub whole : text ≡ line ++ after
  pub ended : BeginsWithEnd after rest

-- the bytes of `text` that come before its suffix `rest`
abbrev pub before_rest : List ℕ → List ℕ → List ℕ
before_rest text rest = take (length text - length rest) text
