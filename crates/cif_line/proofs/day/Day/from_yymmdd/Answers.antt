-- The tactic `auto` proves these goals too. Here they are proved by hand, so that the prover
-- refuses a wrong body without a long search.
use Rattle.cif_laws.proofs.Common.{rules}
use Rattle.cif_line.proofs.day.Day.from_yymmdd.Goals as goal

pub returns-clause-some : goal.returns-clause-some
returns-clause-some c = search rules

pub returns-clause-value : goal.returns-clause-value
returns-clause-value c = search rules
