use Rattle.cif_laws.proofs.Common.{length}
use Rattle.state_index.proofs.memo.Memo.of.Given as goal

abbrev pub decreases-loop-place : goal.decreases-loop-place
decreases-loop-place l = length l.rest
