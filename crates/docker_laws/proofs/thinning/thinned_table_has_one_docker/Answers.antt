use Rattle.docker_laws.proofs.dockers.ThinDocker.{thin_docker, thin_good}
use Rattle.docker_laws.proofs.thinning.thinned_table_has_one_docker.Goals as goal

pub returns-clause-list : goal.returns-clause-list
returns-clause-list c = λ place day live lines good. (thin_docker place day live good).list lines

pub returns-clause-text : goal.returns-clause-text
returns-clause-text c = λ place day live text good. (thin_docker place day live good).text text

pub returns-clause-good : goal.returns-clause-good
returns-clause-good c = thin_good
