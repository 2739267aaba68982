use Rattle.docker_program.proofs.VersionLemmas.{one_known_docker, one_known_text}
use Rattle.docker_program.proofs.laws.known_files_fix_texts.Goals as goal

pub returns-clause-text : goal.returns-clause-text
returns-clause-text c = one_known_text

pub returns-clause-docker : goal.returns-clause-docker
returns-clause-docker c = one_known_docker
