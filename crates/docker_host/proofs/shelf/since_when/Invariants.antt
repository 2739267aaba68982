-- No file before the current index has the name that is searched for.
use Rattle.std.proofs.Common.{◌≡◌, drop}
use Rattle.docker_host.specs.Places.{since_when}
use Rattle.docker_host.proofs.shelf.since_when.Given as goal

abbrev pub invariant-loop-place : goal.invariant-loop-place
invariant-loop-place l = since_when l.places l.name ≡ since_when (drop l.place-index l.places) l.name
