-- `auto` can prove these goals too. They are proved by hand so that the prover refuses a wrong body
-- at once, without a long search.
use Rattle.cif_laws.proofs.Common.{rules}
use Rattle.docker_cmd.proofs.jobs.Job.words.Goals as goal

pub returns-clause-words : goal.returns-clause-words
returns-clause-words c = search rules

pub returns-clause-count : goal.returns-clause-count
returns-clause-count c = search rules
