use Rattle.docker_laws.proofs.dockers.ThinBody.{thin_elsewhere, thin_of_key, needed_is_body}
use Rattle.docker_laws.proofs.thinning.thin_body_is_of_its_key.Goals as goal

pub returns-clause-of_key : goal.returns-clause-of_key
returns-clause-of_key c = thin_of_key

pub returns-clause-body : goal.returns-clause-body
returns-clause-body c = needed_is_body

pub returns-clause-elsewhere : goal.returns-clause-elsewhere
returns-clause-elsewhere c = thin_elsewhere
