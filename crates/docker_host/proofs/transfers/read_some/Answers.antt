use Rattle.std.proofs.Common.{ℕ, Ok}
use Rattle.docker_host.proofs.TransferLemmas.{keeps_again, keeps_itself, reads_after}
use Rattle.docker_host.proofs.transfers.read_some.Goals as goal

pub tries-init : goal.tries-init
tries-init g c = keeps_itself (g.R.Read.remaining c.args.from.now)

pub returns-in-Ok-clause-bytes : goal.returns-in-Ok-clause-bytes
returns-in-Ok-clause-bytes g c = reads_after {E = ℕ} _ _ _ (Ok c.in-Ok.n) _ c.tries.invariant c.in-Ok.ensures.bytes

pub returns-in-Err-2-clause-bytes : goal.returns-in-Err-2-clause-bytes
returns-in-Err-2-clause-bytes g c = keeps_again _ _ _ c.tries.invariant c.in-Err-2.ensures.bytes

pub tries-preserved : goal.tries-preserved
tries-preserved g c = keeps_again _ _ _ c.tries.invariant c.in-Err.ensures.bytes

pub returns-clause-bytes : goal.returns-clause-bytes
returns-clause-bytes g c = c.tries.invariant
