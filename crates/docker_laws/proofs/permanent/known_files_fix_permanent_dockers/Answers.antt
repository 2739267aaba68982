use Rattle.docker_laws.proofs.dockers.PermanentDocker.{permanent_of_files}
use Rattle.docker_laws.proofs.permanent.known_files_fix_permanent_dockers.Goals as goal

pub returns : goal.returns
returns c = permanent_of_files
