-- The function returns the text of the first file with this name, or `None` if no file has the
-- name.
use Rattle.std.proofs.Common.{rules}
use Rattle.docker_host.specs.Places.{texts_of}
use Rattle.docker_host.proofs.CopyLemmas.{at_place, at_end}
use Rattle.docker_host.proofs.shelf.text_among.Goals as goal

pub returns-then-eq : goal.returns-then-eq
returns-then-eq c =
    let came = at_place (λ ps. texts_of ps c.args.name.now) c.loop-place.place-index _ c.loop-place.invariant _ c.loop-place-test.true c.place-item.is in
    search (rules, came)

pub returns : goal.returns
returns c = at_end (λ ps. texts_of ps c.args.name.now) c.loop-place.place-index _ c.loop-place.invariant c.loop-place-test.false

pub loop-place-preserved : goal.loop-place-preserved
loop-place-preserved c =
    let came = at_place (λ ps. texts_of ps c.args.name.now) c.loop-place.place-index _ c.loop-place.invariant _ c.loop-place-test.true c.place-item.is in
    search (rules, came)
