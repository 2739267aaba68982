-- The function returns the count of the first file with this name, or 0 if no file has the name.
use Rattle.std.proofs.Common.{rules, sym}
use Rattle.docker_host.specs.Places.{since_when}
use Rattle.docker_host.proofs.CopyLemmas.{at_place, at_end}
use Rattle.docker_host.proofs.shelf.since_when.Goals as goal

pub returns-then-eq : goal.returns-then-eq
returns-then-eq c =
    let came = at_place (λ ps. since_when ps c.args.name.now) c.loop-place.place-index _ c.loop-place.invariant _ c.loop-place-test.true c.place-item.is in
    search (rules, came)

pub returns : goal.returns
returns c = sym (at_end (λ ps. since_when ps c.args.name.now) c.loop-place.place-index _ c.loop-place.invariant c.loop-place-test.false)

pub loop-place-preserved : goal.loop-place-preserved
loop-place-preserved c =
    let came = at_place (λ ps. since_when ps c.args.name.now) c.loop-place.place-index _ c.loop-place.invariant _ c.loop-place-test.true c.place-item.is in
    search (rules, came)
