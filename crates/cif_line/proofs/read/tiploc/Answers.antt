-- The tactic `auto` proves these goals too. Here they are proved by hand, so that the prover
-- refuses a wrong body without a long search.
use Rattle.cif_laws.proofs.Common.{rules}
use Rattle.cif_line.proofs.read.tiploc.Goals as goal

pub returns-in-None : goal.returns-in-None
returns-in-None c = search rules
