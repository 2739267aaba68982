use Rattle.docker_laws.proofs.dockers.ThinDocker.{thin_excerpt_docker}
use Rattle.docker_laws.proofs.thinning.excerpt_of_thinned_has_one_docker.Goals as goal

pub returns-clause-list : goal.returns-clause-list
returns-clause-list c = λ place day live part lines good is. (thin_excerpt_docker place day live good part is).list lines

pub returns-clause-text : goal.returns-clause-text
returns-clause-text c = λ place day live part text good is. (thin_excerpt_docker place day live good part is).text text
