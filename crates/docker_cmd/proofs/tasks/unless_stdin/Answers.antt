-- `auto` can prove these goals too. They are proved by hand so that the prover refuses a wrong body
-- at once, without a long search.
use Rattle.cif_laws.proofs.Common.{rules}
use Rattle.docker_cmd.proofs.tasks.unless_stdin.Goals as goal

pub returns-then-eq : goal.returns-then-eq
returns-then-eq c = search rules
