-- The tactic `auto` proves these goals too. Here they are proved by hand, so that the prover
-- refuses a wrong body without a long search.
use Rattle.std.proofs.Common.{rules}
use Rattle.cif_device.proofs.fuse.FuseBytesSource.read.Goals as goal

pub returns-clause-count : goal.returns-clause-count
returns-clause-count c = search rules
