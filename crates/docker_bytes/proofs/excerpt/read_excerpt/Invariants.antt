-- The type argument is chosen so that its place and day are the caller's place and day.
use Rattle.docker_bytes.proofs.excerpt.read_excerpt.Given as goal

abbrev pub ghosts-excerpt_at : goal.ghosts-excerpt_at
ghosts-excerpt_at g a = record { place = a.place; day = a.day }
