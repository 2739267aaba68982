use Rattle.docker_desk.proofs.DetailLemmas.{one_detail, one_permanent_detail, plain_detail}
use Rattle.docker_desk.proofs.laws.known_files_fix_detail_answers.Goals as goal

pub returns-clause-docker : goal.returns-clause-docker
returns-clause-docker c = one_detail

pub returns-clause-permanent : goal.returns-clause-permanent
returns-clause-permanent c = one_permanent_detail

pub returns-clause-plain : goal.returns-clause-plain
returns-clause-plain c = λ known state is distinct. let plain = plain_detail known state is distinct in (plain.0, plain.1.0, plain.1.1)
