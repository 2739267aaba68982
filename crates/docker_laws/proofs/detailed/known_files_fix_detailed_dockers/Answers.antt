use Rattle.docker_laws.proofs.dockers.DetailedDocker.{detailed_of_files, permanent_detailed_of_files}
use Rattle.docker_laws.proofs.detailed.known_files_fix_detailed_dockers.Goals as goal

pub returns-clause-docker : goal.returns-clause-docker
returns-clause-docker c = detailed_of_files

pub returns-clause-permanent : goal.returns-clause-permanent
returns-clause-permanent c = permanent_detailed_of_files
