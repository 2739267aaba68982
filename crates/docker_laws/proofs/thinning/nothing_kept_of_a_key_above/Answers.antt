use Rattle.docker_laws.proofs.dockers.ThinChanges.{none_above, raised_at_most}
use Rattle.docker_laws.proofs.thinning.nothing_kept_of_a_key_above.Goals as goal

pub returns-clause-none : goal.returns-clause-none
returns-clause-none c = none_above

pub returns-clause-raised : goal.returns-clause-raised
returns-clause-raised c = raised_at_most
