use Rattle.docker_laws.proofs.dockers.NearState.{near_valid, near_state_docker}
use Rattle.docker_laws.proofs.excerpt.near_state_has_one_docker.Goals as goal

pub returns-clause-valid : goal.returns-clause-valid
returns-clause-valid c = near_valid

pub returns-clause-list : goal.returns-clause-list
returns-clause-list c = λ place day state lines valid. (near_state_docker place day state valid).list lines

pub returns-clause-text : goal.returns-clause-text
returns-clause-text c = λ place day state text valid. (near_state_docker place day state valid).text text
