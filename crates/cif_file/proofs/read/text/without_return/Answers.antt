-- The tactic `auto` proves these goals too. Here they are proved by hand, so that the prover
-- refuses a wrong body without a long search.
use Rattle.cif_laws.proofs.Common.{rules}
use Rattle.cif_file.proofs.read.text.without_return.Goals as goal

pub returns-in-13 : goal.returns-in-13
returns-in-13 c = search rules
