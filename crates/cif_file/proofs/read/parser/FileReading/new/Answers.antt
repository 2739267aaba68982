-- The tactic `auto` proves these goals too. Here they are proved by hand, so that the prover
-- refuses a wrong body without a long search.
use Rattle.cif_laws.proofs.Common.{rules}
use Rattle.cif_file.proofs.read.parser.FileReading.new.Goals as goal

pub returns : goal.returns
returns g c = search rules
