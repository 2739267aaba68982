use Rattle.cif_laws.proofs.Common.{◌≡◌, ◌++◌, map}
use Rattle.docker_join.specs.Meaning.{row_meant}
use Rattle.docker_excerpt.proofs.excerpting.with_rows.Given as goal

abbrev pub invariant-loop-key : goal.invariant-loop-key
invariant-loop-key l = record {
  whole : l.parts.entries ++ map row_meant l.key-iterator.rest.items ≡ map row_meant l.fn.rows.items;
  ledger : l.parts.ledger ≡ l.fn.parts.ledger;
  plain : l.parts.horizon ≡ 0;
}
