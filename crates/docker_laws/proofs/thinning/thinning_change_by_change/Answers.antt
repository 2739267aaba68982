use Rattle.docker_laws.proofs.dockers.ThinChanges.{thinning_elsewhere, thinning_kept, thinning_dropped}
use Rattle.docker_laws.proofs.dockers.ThinChanges.{thinning_removed, thinning_replaced, thinning_more, thinning_of_all}
use Rattle.docker_laws.proofs.thinning.thinning_change_by_change.Goals as goal

pub returns-clause-elsewhere : goal.returns-clause-elsewhere
returns-clause-elsewhere c = thinning_elsewhere

pub returns-clause-keeps : goal.returns-clause-keeps
returns-clause-keeps c = thinning_kept

pub returns-clause-drops : goal.returns-clause-drops
returns-clause-drops c = thinning_dropped

pub returns-clause-removes : goal.returns-clause-removes
returns-clause-removes c = thinning_removed

pub returns-clause-replaces : goal.returns-clause-replaces
returns-clause-replaces c = thinning_replaced

pub returns-clause-more : goal.returns-clause-more
returns-clause-more c = thinning_more

pub returns-clause-whole : goal.returns-clause-whole
returns-clause-whole c = thinning_of_all
