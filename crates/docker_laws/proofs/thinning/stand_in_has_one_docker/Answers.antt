use Rattle.docker_laws.proofs.dockers.FewMidnights.{bodies_few}
use Rattle.docker_laws.proofs.dockers.NearDocker.{stand_in_docker}
use Rattle.docker_laws.proofs.dockers.ThinDocker.{thinned_stands}
use Rattle.docker_laws.proofs.thinning.stand_in_has_one_docker.Goals as goal

pub returns-clause-list : goal.returns-clause-list
returns-clause-list c = λ place day live part lines good good_part stands.
    (stand_in_docker _ _ _ _ stands (bodies_few _ good) (bodies_few _ good_part)).list lines

pub returns-clause-text : goal.returns-clause-text
returns-clause-text c = λ place day live part text good good_part stands.
    (stand_in_docker _ _ _ _ stands (bodies_few _ good) (bodies_few _ good_part)).text text

pub returns-clause-thinned : goal.returns-clause-thinned
returns-clause-thinned c = thinned_stands
