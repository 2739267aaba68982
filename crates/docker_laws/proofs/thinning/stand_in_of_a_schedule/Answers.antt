use Rattle.docker_laws.proofs.dockers.ThinBody.{any_ends_of_key}
use Rattle.docker_laws.proofs.dockers.ThinDocker.{needed_stand_in, stand_in_by_first, stand_in_other_day}
use Rattle.docker_laws.proofs.thinning.stand_in_of_a_schedule.Goals as goal

pub returns-clause-needed : goal.returns-clause-needed
returns-clause-needed c = needed_stand_in

pub returns-clause-other_day : goal.returns-clause-other_day
returns-clause-other_day c = stand_in_other_day

pub returns-clause-first : goal.returns-clause-first
returns-clause-first c = stand_in_by_first

pub returns-clause-ends : goal.returns-clause-ends
returns-clause-ends c = any_ends_of_key
