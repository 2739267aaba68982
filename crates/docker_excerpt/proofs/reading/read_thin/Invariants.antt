-- The place and the day that the type gives are the place and the day that were passed to the
-- function.
use Rattle.docker_excerpt.proofs.reading.read_thin.Given as goal

abbrev pub ghosts-thin_at : goal.ghosts-thin_at
ghosts-thin_at g a = record { place = a.place; day = a.day }
