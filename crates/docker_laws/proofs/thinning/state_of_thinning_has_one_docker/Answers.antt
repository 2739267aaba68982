use Rattle.docker_laws.proofs.dockers.ThinState.{thin_valid, thin_live, thin_state_docker}
use Rattle.docker_laws.proofs.thinning.state_of_thinning_has_one_docker.Goals as goal

pub returns-clause-valid : goal.returns-clause-valid
returns-clause-valid c = λ place day file kept part is_file few is of. thin_valid place day file is_file few kept is part of

pub returns-clause-live : goal.returns-clause-live
returns-clause-live c = λ place day file kept part is of. λ i key. thin_live place day file kept is part of key i

pub returns-clause-list : goal.returns-clause-list
returns-clause-list c = λ place day file kept part whole is_file few is of summary.
    (thin_state_docker place day file is_file few kept is part of whole summary).list

pub returns-clause-text : goal.returns-clause-text
returns-clause-text c = λ place day file kept part whole is_file few is of summary.
    (thin_state_docker place day file is_file few kept is part of whole summary).text
