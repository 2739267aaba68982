-- `auto` can prove these goals too. They are proved by hand so that the prover refuses a wrong body
-- at once, without a long search.
use Rattle.cif_laws.proofs.Common.{rules}
use Rattle.docker_cmd.proofs.named.is_plain.Goals as goal

pub returns-then-not-is_empty : goal.returns-then-not-is_empty
returns-then-not-is_empty c = search rules
