use Rattle.docker_laws.proofs.dockers.DetailedColumns.{docker_in_details, width_of_details}
use Rattle.docker_laws.proofs.detailed.detailed_docker_has_docker.Goals as goal

pub returns-clause-columns : goal.returns-clause-columns
returns-clause-columns c = λ live place day text good tiploc. docker_in_details live place day good text tiploc

pub returns-clause-width : goal.returns-clause-width
returns-clause-width c = λ live place day text good tiploc is fits. width_of_details live place day good fits text tiploc is
