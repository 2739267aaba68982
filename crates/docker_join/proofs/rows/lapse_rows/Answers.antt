use Rattle.cif_laws.proofs.Common.{arith}
use Rattle.docker_join.proofs.LapsedRows.{all_lapsed, lapsed_ascend}
use Rattle.docker_join.proofs.rows.lapse_rows.Goals as goal

pub returns-clause-ascending : goal.returns-clause-ascending
returns-clause-ascending c = lapsed_ascend _ _ _ (all_lapsed _ _ _ _ (omega arith) c.loop-row.invariant.lapsed)
