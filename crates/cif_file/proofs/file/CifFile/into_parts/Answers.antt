-- The tactic `auto` proves these goals too. Here they are proved by hand, so that the prover
-- refuses a wrong body without a long search.
use Rattle.cif_laws.proofs.Common.{rules}
use Rattle.cif_file.proofs.file.CifFile.into_parts.Goals as goal

pub returns-clause-file : goal.returns-clause-file
returns-clause-file c = search rules

pub returns-clause-parts : goal.returns-clause-parts
returns-clause-parts c = search rules
