use Rattle.cif_laws.proofs.Common.{◌≡◌, length, map}
use Rattle.docker_join.specs.Meaning.{row_meant}
use Rattle.state_index.specs.PlaceRows.{rows_at_postings}
use Rattle.state_index.proofs.place_rows.IndexedRowsIterator.next.Given as goal

abbrev pub invariant-loop-posting : goal.invariant-loop-posting
invariant-loop-posting l = record {
  out : rows_at_postings (map row_meant l.initial.self-inside.rows.now) l.initial.self-inside.postings.now
      ≡ rows_at_postings (map row_meant l.self-inside.rows.now) l.self-inside.postings.now;
}

abbrev pub decreases-loop-posting : goal.decreases-loop-posting
decreases-loop-posting l = length l.self-inside.postings.now
