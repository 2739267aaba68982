use Rattle.docker_desk.proofs.FixedLemmas.{plain_dockers}
use Rattle.docker_desk.proofs.laws.dockers_are_of_the_plain_table.Goals as goal

pub returns : goal.returns
returns c = λ known state is distinct. let plain = plain_dockers known state is distinct in (plain.0, plain.1.0, plain.1.1)
