use Rattle.docker_laws.proofs.dockers.PermanentDocker.{permanent_line}
use Rattle.docker_laws.proofs.permanent.permanent_lines_are_permanent.Goals as goal

pub returns : goal.returns
returns c = permanent_line
