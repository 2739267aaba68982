use Rattle.cif_laws.proofs.Common.{◌≡◌, ◌+◌, ◌≤◌, length, map, false}
use Rattle.docker_join.specs.Meaning.{row_meant}
use Rattle.docker_state.specs.PlaceRows.{rows_here}
use Rattle.docker_state.proofs.sifted.count_calls.Given as goal

abbrev pub invariant-loop-row : goal.invariant-loop-row
invariant-loop-row l = record {
  counted : l.count + length (rows_here false l.place (map row_meant l.rest)) ≡ length (rows_here false l.place (map row_meant l.fn.rows));
  few : l.count + length l.rest ≤ length l.fn.rows;
}

abbrev pub decreases-loop-row : goal.decreases-loop-row
decreases-loop-row l = length l.rest
