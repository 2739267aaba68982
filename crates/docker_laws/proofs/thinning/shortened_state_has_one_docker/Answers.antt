use Rattle.docker_laws.proofs.dockers.Shortened.{shortened_valid, shortened_docker}
use Rattle.docker_laws.proofs.thinning.shortened_state_has_one_docker.Goals as goal

pub returns-clause-valid : goal.returns-clause-valid
returns-clause-valid c = shortened_valid

pub returns-clause-list : goal.returns-clause-list
returns-clause-list c = λ place day state lines valid. (shortened_docker place day state valid).list lines

pub returns-clause-text : goal.returns-clause-text
returns-clause-text c = λ place day state text valid. (shortened_docker place day state valid).text text
