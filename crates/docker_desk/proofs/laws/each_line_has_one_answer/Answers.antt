use Rattle.docker_desk.specs.Answering.{lines_of}
use Rattle.docker_desk.proofs.FixedLemmas.{one_each}
use Rattle.docker_desk.proofs.ReadingLemmas.{one_reading}
use Rattle.docker_desk.proofs.laws.each_line_has_one_answer.Goals as goal

pub returns-clause-one : goal.returns-clause-one
returns-clause-one c = λ ending input output output_now steps ends. one_each steps

pub returns-clause-all : goal.returns-clause-all
returns-clause-all c = λ text lines output output_now steps are ends. one_reading text (lines_of steps) lines ends.0 are
