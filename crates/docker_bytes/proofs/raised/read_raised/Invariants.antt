-- The type argument is chosen so that its day is the caller's day.
use Rattle.docker_bytes.proofs.raised.read_raised.Given as goal

abbrev pub ghosts-raised_to : goal.ghosts-raised_to
ghosts-raised_to g a = record { day = a.day }
