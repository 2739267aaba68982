use Rattle.docker_desk.proofs.ReadingLemmas.{one_reading}
use Rattle.docker_desk.proofs.laws.an_input_has_one_reading.Goals as goal

pub returns : goal.returns
returns c = one_reading
