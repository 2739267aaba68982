use Rattle.docker_laws.proofs.dockers.ExcerptWalk.{walk_is_excerpt, walk_valid, walk_docker}
use Rattle.docker_laws.proofs.dockers.ExcerptSteps.{excerpt_members}
use Rattle.docker_laws.proofs.excerpt.walk_leaves_excerpt.Goals as goal

pub returns-clause-is : goal.returns-clause-is
returns-clause-is c = walk_is_excerpt

pub returns-clause-members : goal.returns-clause-members
returns-clause-members c = λ place state key entry up. excerpt_members place state up key entry

pub returns-clause-valid : goal.returns-clause-valid
returns-clause-valid c = walk_valid

pub returns-clause-list : goal.returns-clause-list
returns-clause-list c = λ place state day lines valid. (walk_docker place state day valid).list lines

pub returns-clause-text : goal.returns-clause-text
returns-clause-text c = λ place state day text valid. (walk_docker place state day valid).text text
