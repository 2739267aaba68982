use Rattle.docker_train.proofs.Origins.{found_is_plain}
use Rattle.docker_train.proofs.laws.found_train_is_plain.Goals as goal

pub returns : goal.returns
returns c = found_is_plain
