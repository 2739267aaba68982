-- The type argument is chosen so that its state is the state before the call.
use Rattle.docker_bytes.proofs.join.join_state.Given as goal

abbrev pub ghosts-receive : goal.ghosts-receive
ghosts-receive g a = record { own = a.own }
