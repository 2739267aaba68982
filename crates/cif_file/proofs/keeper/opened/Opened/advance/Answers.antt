-- The tactic `auto` proves these goals too. Here they are proved by hand, so that the prover
-- refuses a wrong body without a long search.
use Rattle.cif_laws.proofs.Common.{rules}
use Rattle.cif_file.proofs.keeper.opened.Opened.advance.Goals as goal

pub returns-clause-err : goal.returns-clause-err
returns-clause-err c = search rules
