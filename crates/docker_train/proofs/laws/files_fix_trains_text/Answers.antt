use Rattle.docker_train.proofs.ListedTrains.{list_of_files}
use Rattle.docker_train.proofs.laws.files_fix_trains_text.Goals as goal

pub returns : goal.returns
returns c = list_of_files
