use Rattle.docker_desk.proofs.TrainLemmas.{train_known}
use Rattle.docker_desk.proofs.laws.trains_came_from_known_files.Goals as goal

pub returns : goal.returns
returns c = train_known c.train_came_from_a_file.ensures c.found_train_is_plain.ensures
