use Rattle.std.proofs.Common.{ℕ, Ok}
use Rattle.docker_host.proofs.TransferLemmas.{keeps_again, keeps_itself, writes_after}
use Rattle.docker_host.proofs.transfers.write_some.Goals as goal

pub tries-init : goal.tries-init
tries-init g c = keeps_itself (g.W.Write.contents c.args.to.now)

pub tries-preserved : goal.tries-preserved
tries-preserved g c = keeps_again _ _ _ c.tries.invariant c.in-Err.ensures.bytes

pub returns-in-Ok-clause-bytes : goal.returns-in-Ok-clause-bytes
returns-in-Ok-clause-bytes g c = writes_after {E = ℕ} _ _ _ (Ok c.in-Ok.n) c.args.piece.now c.tries.invariant c.in-Ok.ensures.bytes

pub returns-clause-bytes : goal.returns-clause-bytes
returns-clause-bytes g c = c.tries.invariant
