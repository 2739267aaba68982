use Rattle.docker_desk.proofs.TrainLemmas.{one_list_known, plain_list_known}
use Rattle.docker_desk.proofs.laws.known_files_fix_train_lists.Goals as goal

pub returns-clause-list : goal.returns-clause-list
returns-clause-list c = one_list_known c.files_fix_trains_text.ensures

pub returns-clause-plain : goal.returns-clause-plain
returns-clause-plain c = plain_list_known c.trains_text_is_plain.ensures
