-- Texts of TIPLOCs, the codes of timing points.
use Rattle.std.specs.Prelude.{ℕ, ◌<◌, ◌≤◌, Bool, ◌&&◌, nat_le, List, length}
use Rattle.std.specs.List.{AllPass}

-- whether a TIPLOC's text may contain this byte: a printable byte that isn't a space
abbrev pub is_graphic : ℕ → Bool
is_graphic b = nat_le 0x21 b && nat_le b 0x7E

-- Says that a text is a TIPLOC without its padding: it has one to seven bytes, each printable and
-- not a space.
pub record IsTiplocText (text : List ℕ) : Type 0 where
  pub some : 0 < length text
  pub few : length text ≤ 7
  pub graphic : AllPass is_graphic text
