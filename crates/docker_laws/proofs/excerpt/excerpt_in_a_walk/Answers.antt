use Rattle.docker_laws.proofs.dockers.ExcerptSteps.{so_far_within, so_far_good, after_run_within}
use Rattle.docker_laws.proofs.excerpt.excerpt_in_a_walk.Goals as goal

pub returns-clause-within : goal.returns-clause-within
returns-clause-within c = so_far_within

pub returns-clause-good : goal.returns-clause-good
returns-clause-good c = so_far_good

pub returns-clause-after_run : goal.returns-clause-after_run
returns-clause-after_run c = after_run_within
