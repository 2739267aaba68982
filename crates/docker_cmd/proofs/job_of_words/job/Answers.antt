-- `auto` can prove these goals too. They are proved by hand so that the prover refuses a wrong body
-- at once, without a long search.
use Rattle.cif_laws.proofs.Common.{rules}
use Rattle.docker_cmd.proofs.job_of_words.job.Goals as goal

pub returns-in-Err-clause-usage : goal.returns-in-Err-clause-usage
returns-in-Err-clause-usage c = search rules
