-- No file before the current index has the name that is searched for.
use Rattle.std.proofs.Common.{◌≡◌, drop}
use Rattle.docker_host.specs.Places.{texts_of}
use Rattle.docker_host.proofs.shelf.text_among.Given as goal

abbrev pub invariant-loop-place : goal.invariant-loop-place
invariant-loop-place l = texts_of l.places l.name ≡ texts_of (drop l.place-index l.places) l.name
