use Rattle.docker_train.proofs.Origins.{event_train, base_train}
use Rattle.docker_train.proofs.laws.trains_of_a_docker.Goals as goal

pub returns-clause-events : goal.returns-clause-events
returns-clause-events c = event_train

pub returns-clause-associations : goal.returns-clause-associations
returns-clause-associations c = base_train
