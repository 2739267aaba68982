use Rattle.docker_desk.proofs.KnownLemmas.{steps_apart}
use Rattle.docker_desk.proofs.laws.each_point_is_a_last_one.Goals as goal

pub returns : goal.returns
returns c = λ setting first last earlier later are.
    let apart = steps_apart setting first last earlier later are in (apart.0, apart.1.0, apart.1.1)
