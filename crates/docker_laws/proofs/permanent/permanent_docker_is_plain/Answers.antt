use Rattle.docker_laws.proofs.dockers.PermanentDocker.{permanent_is_plain}
use Rattle.docker_laws.proofs.permanent.permanent_docker_is_plain.Goals as goal

pub returns : goal.returns
returns c = permanent_is_plain
