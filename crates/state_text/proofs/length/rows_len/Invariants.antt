use Rattle.cif_laws.proofs.Common.{◌≡◌, ◌*◌, ◌^◌, ◌≤◌, length, take, map, flat_map, entry_bytes}
use Rattle.docker_join.specs.Meaning.{row_meant}
use Rattle.state_text.proofs.length.rows_len.Given as goal

-- `total` is the length in bytes of the text of all entries before the current entry, and is at
-- most 2 ^ 41 times the number of these entries
abbrev pub invariant-loop-row : goal.invariant-loop-row
invariant-loop-row l = record {
  value : l.total ≡ length (flat_map entry_bytes (map row_meant (take l.row-index l.rows)));
  bound : l.total ≤ l.row-index * 2 ^ 41;
}
