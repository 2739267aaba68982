use Rattle.cif_laws.proofs.Common.{map, ◌∙◌, append-nil, flat_map, entry_bytes}
use Rattle.docker_join.specs.Meaning.{row_meant}
use Rattle.state_text.specs.Entries.{HasFewLines}
use Rattle.state_text.proofs.BufferLemmas.{each_given, each_fails, mapped_join}
use Rattle.state_text.proofs.WriteLemmas.{at_mapped}
use Rattle.state_text.proofs.write.put_rows.Goals as goal

pub put_row-requires-clause-few : goal.put_row-requires-clause-few
put_row-requires-clause-few g c = at_mapped HasFewLines row_meant _ _ _ c.requires.few c.loop-row-test.true c.row-item.is

pub returns-in_err-put_row : goal.returns-in_err-put_row
returns-in_err-put_row g c = each_fails (λ xs. flat_map entry_bytes (map row_meant xs)) (mapped_join entry_bytes row_meant) _ _ _ _
    c.loop-row-test.true c.row-item.is (append-nil _) _ _ _ _ _ _ _ _ _ _ c.loop-row.invariant.given c.loop-row.invariant.no_failure
    c.from_residual.ensures.1 c.in_err-put_row.ensures

pub loop-row-preserved : goal.loop-row-preserved
loop-row-preserved g c = record {
  given = each_given (λ xs. flat_map entry_bytes (map row_meant xs)) (mapped_join entry_bytes row_meant) _ _ _ _
      c.loop-row-test.true c.row-item.is (append-nil _) _ _ _ _ _ _ c.loop-row.invariant.given c.in_ok-put_row.ensures.0;
  no_failure = c.in_ok-put_row.ensures.1 ∙ c.loop-row.invariant.no_failure;
}
