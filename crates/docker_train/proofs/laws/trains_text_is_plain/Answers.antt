use Rattle.docker_train.proofs.ListedTrains.{list_is_plain}
use Rattle.docker_train.proofs.laws.trains_text_is_plain.Goals as goal

pub returns : goal.returns
returns c = list_is_plain
