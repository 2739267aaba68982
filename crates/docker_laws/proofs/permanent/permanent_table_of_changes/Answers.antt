use Rattle.docker_laws.proofs.dockers.PermanentDocker.{permanent_along}
use Rattle.docker_laws.proofs.permanent.permanent_table_of_changes.Goals as goal

pub returns : goal.returns
returns c = permanent_along
