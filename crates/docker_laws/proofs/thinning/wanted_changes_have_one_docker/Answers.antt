use Rattle.docker_laws.proofs.dockers.NeededChanges.{wanted_valid, wanted_docker}
use Rattle.docker_laws.proofs.thinning.wanted_changes_have_one_docker.Goals as goal

pub returns-clause-valid : goal.returns-clause-valid
returns-clause-valid c = λ place day file kept uids part is_file few is of. wanted_valid place day file is_file few kept is uids part of

pub returns-clause-list : goal.returns-clause-list
returns-clause-list c = λ place day file kept uids part whole is_file few is has of summary.
    (wanted_docker place day file is_file few kept is uids part of has whole summary).list

pub returns-clause-text : goal.returns-clause-text
returns-clause-text c = λ place day file kept uids part whole is_file few is has of summary.
    (wanted_docker place day file is_file few kept is uids part of has whole summary).text
