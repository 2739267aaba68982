-- The shelf's invariant still holds after the call has added its event to the history.
use Rattle.std.proofs.Common.{refl}
use Rattle.docker_host.proofs.ShelfLemmas.{kept_still}
use Rattle.docker_host.proofs.shelf.ShelfFolder.close.Goals as goal

pub invariant_of-self : goal.invariant_of-self
invariant_of-self c = rw c.then-self-inside.ensures (kept_still _ _ _ c.self.invariant (λ texts. refl) (λ other. refl) tt tt)
