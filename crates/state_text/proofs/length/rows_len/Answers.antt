use Rattle.docker_join.specs.Meaning.{row_meant}
use Rattle.state_text.specs.Entries.{IsOfWidth}
use Rattle.state_text.proofs.WriteLemmas.{at_mapped}
use Rattle.state_text.proofs.length.rows_len.Goals as goal

pub row_len-total-requires : goal.row_len-total-requires
row_len-total-requires c = at_mapped IsOfWidth row_meant c.args.rows.now c.loop-row.row-index c.row-item.result c.requires c.loop-row-test.true c.row-item.is
