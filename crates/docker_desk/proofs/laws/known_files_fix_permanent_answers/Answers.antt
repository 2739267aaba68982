use Rattle.docker_desk.proofs.PermanentLemmas.{one_permanent, plain_permanent}
use Rattle.docker_desk.proofs.laws.known_files_fix_permanent_answers.Goals as goal

pub returns-clause-docker : goal.returns-clause-docker
returns-clause-docker c = one_permanent

pub returns-clause-plain : goal.returns-clause-plain
returns-clause-plain c = λ known state is distinct. let plain = plain_permanent known state is distinct in (plain.0, plain.1.0, plain.1.1)
