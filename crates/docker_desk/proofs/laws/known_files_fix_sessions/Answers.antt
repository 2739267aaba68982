use Rattle.docker_desk.proofs.KnownLemmas.{known_read, known_steps, known_then}
use Rattle.docker_desk.proofs.laws.known_files_fix_sessions.Goals as goal

pub returns-clause-begins : goal.returns-clause-begins
returns-clause-begins c = λ name old first start sent begins holds is. known_read _ _ _ _ _ begins.state holds is

pub returns-clause-goes_on : goal.returns-clause-goes_on
returns-clause-goes_on c = λ setting first last steps old new is are learned. known_steps setting first last steps old new is are learned

pub returns-clause-knows : goal.returns-clause-knows
returns-clause-knows c = λ setting known state at. known_then setting known state at
