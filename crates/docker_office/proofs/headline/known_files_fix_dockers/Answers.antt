use Rattle.docker_office.proofs.EndedRuns.{one_docker}
use Rattle.docker_office.proofs.headline.known_files_fix_dockers.Goals as goal

pub returns : goal.returns
returns c = one_docker
