use Rattle.docker_train.proofs.Origins.{one_text}
use Rattle.docker_train.proofs.laws.one_train_text.Goals as goal

pub returns : goal.returns
returns c = one_text
