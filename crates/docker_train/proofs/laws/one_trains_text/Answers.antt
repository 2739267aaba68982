use Rattle.docker_train.proofs.ListedTrains.{one_list}
use Rattle.docker_train.proofs.laws.one_trains_text.Goals as goal

pub returns : goal.returns
returns c = one_list
