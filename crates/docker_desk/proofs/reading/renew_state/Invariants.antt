-- The ghost bytes of the copying source are the bytes left in the opened file.
use Rattle.docker_desk.proofs.reading.renew_state.Given as goal

abbrev pub ghosts-receive_copied : goal.ghosts-receive_copied
ghosts-receive_copied g a = record { bytes = g.D.File.Source.left a.source }
