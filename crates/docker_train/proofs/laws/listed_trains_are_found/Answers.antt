use Rattle.docker_train.proofs.Origins.{listed_found}
use Rattle.docker_train.proofs.laws.listed_trains_are_found.Goals as goal

pub returns : goal.returns
returns c = listed_found
