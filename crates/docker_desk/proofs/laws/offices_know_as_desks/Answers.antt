use Rattle.docker_desk.proofs.FixedLemmas.{office_knows}
use Rattle.docker_desk.proofs.laws.offices_know_as_desks.Goals as goal

pub returns : goal.returns
returns c = office_knows
