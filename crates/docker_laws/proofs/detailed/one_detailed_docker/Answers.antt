use Rattle.docker_laws.proofs.dockers.OneOrigin.{one_detailed_text}
use Rattle.docker_laws.proofs.detailed.one_detailed_docker.Goals as goal

pub returns : goal.returns
returns c = one_detailed_text
