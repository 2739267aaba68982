use Rattle.docker_program.proofs.VersionLemmas.{plain_known_docker}
use Rattle.docker_program.proofs.laws.dockers_are_of_the_plain_table.Goals as goal

pub returns : goal.returns
returns c = plain_known_docker
