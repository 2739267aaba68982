use Rattle.docker_desk.proofs.LookLemmas.{good_first, good_steps}
use Rattle.docker_desk.proofs.laws.looks_come_before_readings.Goals as goal

pub returns : goal.returns
returns c = λ setting old first last steps begins are. good_steps setting first last steps (good_first setting old first begins) are
