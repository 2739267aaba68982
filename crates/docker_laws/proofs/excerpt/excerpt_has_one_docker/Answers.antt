use Rattle.docker_laws.proofs.dockers.ExcerptDocker.{excerpt_docker}
use Rattle.docker_laws.proofs.excerpt.excerpt_has_one_docker.Goals as goal

pub returns-clause-list : goal.returns-clause-list
returns-clause-list c = λ place live part day lines is. (excerpt_docker place live part is day).list lines

pub returns-clause-text : goal.returns-clause-text
returns-clause-text c = λ place live part day text is. (excerpt_docker place live part is day).text text
