-- Spots and their order. A spot is like a posting, but has the TIPLOC itself in place of the
-- TIPLOC's index.
use Rattle.std.specs.Prelude.{ℕ, List}
use Rattle.std.specs.declared.cmp.Ordering.{Ordering}
use Rattle.std.specs.Ordering.{ordering_then, nat_cmp}
use Rattle.docker_model.specs.state.Order.{bytes_cmp}

-- a TIPLOC with the index of a row: a schedule that calls there, or an association there
pub record Spot : Type 0 where
  pub place : List ℕ
  pub at : ℕ

-- compares two spots: by TIPLOC, and then by row
abbrev pub spot_cmp : Spot → Spot → Ordering
spot_cmp a b = ordering_then (bytes_cmp a.place b.place) (nat_cmp a.at b.at)
