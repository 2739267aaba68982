use Rattle.docker_laws.proofs.dockers.ThinChanges.{thin_over}
use Rattle.docker_laws.proofs.dockers.ThinState.{kept_good}
use Rattle.docker_laws.proofs.thinning.kept_changes_make_the_thinned_table.Goals as goal

pub returns-clause-over : goal.returns-clause-over
returns-clause-over c = thin_over

pub returns-clause-good : goal.returns-clause-good
returns-clause-good c = λ place day file kept change is_file few is among. (kept_good place day file is_file few kept is change among).0

pub returns-clause-numbers : goal.returns-clause-numbers
returns-clause-numbers c = λ place day file kept change is_file few is among. (kept_good place day file is_file few kept is change among).1
