use Rattle.docker_laws.proofs.dockers.DetailedDocker.{detailed_is_plain, permanent_detailed_is_plain}
use Rattle.docker_laws.proofs.detailed.detailed_docker_is_plain.Goals as goal

pub returns-clause-docker : goal.returns-clause-docker
returns-clause-docker c = detailed_is_plain

pub returns-clause-permanent : goal.returns-clause-permanent
returns-clause-permanent c = permanent_detailed_is_plain
