-- The tactic `auto` proves these goals too. Here they are proved by hand, so that the prover
-- refuses a wrong body without a long search.
use Rattle.std.proofs.Common.{rules}
use Rattle.cif_device.proofs.fuse.FuseKeptSink.write.Goals as goal

pub returns-clause-moved : goal.returns-clause-moved
returns-clause-moved c = search rules
