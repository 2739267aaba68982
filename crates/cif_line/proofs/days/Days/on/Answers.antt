-- The tactic `auto` proves these goals too. Here they are proved by hand, so that the prover
-- refuses a wrong body without a long search.
use Rattle.cif_laws.proofs.Common.{rules}
use Rattle.cif_line.proofs.days.Days.on.Goals as goal

pub returns : goal.returns
returns c = search rules
