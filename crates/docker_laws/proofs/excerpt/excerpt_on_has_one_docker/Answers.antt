use Rattle.docker_laws.proofs.dockers.Shortened.{excerpt_on_valid, excerpt_on_docker}
use Rattle.docker_laws.proofs.excerpt.excerpt_on_has_one_docker.Goals as goal

pub returns-clause-valid : goal.returns-clause-valid
returns-clause-valid c = excerpt_on_valid

pub returns-clause-list : goal.returns-clause-list
returns-clause-list c = λ place day state lines valid. (excerpt_on_docker place day state valid).list lines

pub returns-clause-text : goal.returns-clause-text
returns-clause-text c = λ place day state text valid. (excerpt_on_docker place day state valid).text text
