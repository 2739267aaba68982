-- The tactic `auto` proves these goals too. Here they are proved by hand, so that the prover
-- refuses a wrong body without a long search.
use Rattle.std.proofs.Common.{rules}
use Rattle.cif_device.proofs.fuse.Fuse.blows.Goals as goal

pub returns-clause-blows : goal.returns-clause-blows
returns-clause-blows g c = search rules
