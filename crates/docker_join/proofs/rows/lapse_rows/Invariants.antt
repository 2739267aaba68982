use Rattle.cif_laws.proofs.Common.{◌≡◌, false, map, lapse_entries}
use Rattle.docker_join.specs.Meaning.{row_meant}
use Rattle.docker_join.proofs.LapsedRows.{lapsed_from}
use Rattle.docker_join.proofs.rows.lapse_rows.Given as goal

abbrev pub invariant-loop-row : goal.invariant-loop-row
invariant-loop-row l = record {
  lapsed : lapsed_from l.horizon l.row-index l.rows ≡ lapse_entries l.horizon (map row_meant l.fn.rows);
  same : l.some ≡ false → l.rows ≡ l.fn.rows;
}
