-- The tactic `auto` proves these goals too. Here they are proved by hand, so that the prover
-- refuses a wrong body without a long search.
use Rattle.cif_laws.proofs.Common.{rules}
use Rattle.cif_line.proofs.identity.is_amendment.Goals as goal

pub returns-in-Some-TiplocAmend : goal.returns-in-Some-TiplocAmend
returns-in-Some-TiplocAmend c = search rules

pub returns-in_default : goal.returns-in_default
returns-in_default c = search rules

pub returns-in_default-2 : goal.returns-in_default-2
returns-in_default-2 c = search rules
