use Rattle.docker_train.proofs.Origins.{came_from}
use Rattle.docker_train.proofs.laws.train_came_from_a_file.Goals as goal

pub returns : goal.returns
returns c = came_from
