-- The tactic `auto` proves these goals too. Here they are proved by hand, so that the prover
-- refuses a wrong body without a long search.
use Rattle.cif_laws.proofs.Common.{rules}
use Rattle.cif_file.proofs.file.parts.FileParts.into_file.Goals as goal

pub returns : goal.returns
returns c = search rules

pub invariant_of-result : goal.invariant_of-result
invariant_of-result c = search rules
