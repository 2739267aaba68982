use Rattle.cif_laws.proofs.Common.{ap, dks_2, state_text}
use Rattle.docker_desk.proofs.FixedLemmas.{one_docker, one_state}
use Rattle.docker_desk.proofs.laws.known_files_fix_states.Goals as goal

pub returns-clause-state : goal.returns-clause-state
returns-clause-state c = one_state

pub returns-clause-text : goal.returns-clause-text
returns-clause-text c = λ first second one two left right same. ap (state_text dks_2) (one_state first second one two left right same)

pub returns-clause-docker : goal.returns-clause-docker
returns-clause-docker c = one_docker
