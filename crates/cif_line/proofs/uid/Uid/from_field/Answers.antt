-- The tactic `auto` proves these goals too. Here they are proved by hand, so that the prover
-- refuses a wrong body without a long search.
use Rattle.cif_laws.proofs.Common.{rules}
use Rattle.cif_line.proofs.uid.Uid.from_field.Goals as goal

pub returns-then-are_printable-clause-value : goal.returns-then-are_printable-clause-value
returns-then-are_printable-clause-value c = search rules
