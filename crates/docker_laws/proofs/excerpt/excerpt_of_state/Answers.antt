use Rattle.docker_laws.proofs.dockers.ExcerptDocker.{excerpt_docker}
use Rattle.docker_laws.proofs.dockers.ExcerptState.{excerpt_valid, excerpt_itself, excerpt_again}
use Rattle.docker_laws.proofs.excerpt.excerpt_of_state.Goals as goal

pub returns-clause-valid : goal.returns-clause-valid
returns-clause-valid c = excerpt_valid

pub returns-clause-list : goal.returns-clause-list
returns-clause-list c = λ place state part day lines is. (excerpt_docker place _ _ is.live day).list lines

pub returns-clause-text : goal.returns-clause-text
returns-clause-text c = λ place state part day text is. (excerpt_docker place _ _ is.live day).text text

pub returns-clause-itself : goal.returns-clause-itself
returns-clause-itself c = excerpt_itself

pub returns-clause-again : goal.returns-clause-again
returns-clause-again c = excerpt_again
