-- `auto` can prove these goals too. They are proved by hand so that the prover refuses a wrong body
-- at once, without a long search.
use Rattle.cif_laws.proofs.Common.{rules}
use Rattle.docker_cmd.proofs.line_of_job.split_at_space.Goals as goal

pub returns-clause-pieces : goal.returns-clause-pieces
returns-clause-pieces c = search rules
