-- The shelf's invariant still holds after the call has added its event to the history.
use Rattle.std.proofs.Common.{ap, refl}
use Rattle.docker_host.specs.Shelf.{ShelfView}
use Rattle.docker_host.proofs.ShelfLemmas.{kept_drafted, kept_still, still_as}
use Rattle.docker_host.proofs.shelf.ShelfFolder.create.Goals as goal

pub invariant_of-self : goal.invariant_of-self
invariant_of-self c = rw c.then-self-inside.ensures
    (kept_drafted _ _ _ _ c.self.invariant
    (still_as _ _ _ _ _ (ap (λ (folder : ShelfView). folder.events) c.self.view_is) c.seen.view_is c.in-Ok.ensures.still))

pub invariant_of-self-in-Err-Memory : goal.invariant_of-self-in-Err-Memory
invariant_of-self-in-Err-Memory c = rw c.then-self-inside-in-Err-Memory.ensures (kept_still _ _ _ c.self.invariant (λ texts. refl) (λ other. refl) tt tt)

pub invariant_of-self-in-Err-Failed : goal.invariant_of-self-in-Err-Failed
invariant_of-self-in-Err-Failed c = rw c.then-self-inside-in-Err-Failed.ensures (kept_still _ _ _ c.self.invariant (λ texts. refl) (λ other. refl) tt tt)
