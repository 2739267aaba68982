use Rattle.cif_laws.proofs.Common.{◌≡◌, length, map}
use Rattle.docker_join.specs.Meaning.{row_meant}
use Rattle.docker_state.specs.PlaceRows.{rows_here}
use Rattle.docker_state.proofs.sifted.SiftedRowsIterator.next.Given as goal

abbrev pub invariant-loop-row : goal.invariant-loop-row
invariant-loop-row l = record {
  out : rows_here l.initial.self-inside.links l.initial.self-inside.place (map row_meant l.initial.self-inside.rows.now)
      ≡ rows_here l.self-inside.links l.self-inside.place (map row_meant l.self-inside.rows.now);
}

abbrev pub decreases-loop-row : goal.decreases-loop-row
decreases-loop-row l = length l.self-inside.rows.now
