-- The shelf's invariant still holds after the call has added its event to the history.
use Rattle.std.proofs.Common.{refl, ap, ◌∙◌}
use Rattle.docker_host.specs.Shelf.{ShelfView, text_under}
use Rattle.docker_host.proofs.ShelfLemmas.{kept_still, kept_opened}
use Rattle.docker_host.proofs.shelf.ShelfFolder.open.Goals as goal

pub invariant_of-self : goal.invariant_of-self
invariant_of-self c = rw (c.then-self-inside.ensures, c.as_slice.ensures.value)
    (kept_opened _ _ _ _ c.self.invariant (ap (λ (folder : ShelfView). text_under folder.events c.args.name.now) c.self.view_is ∙ c.in-Ok.ensures.text))

pub invariant_of-self-in-Err-Memory : goal.invariant_of-self-in-Err-Memory
invariant_of-self-in-Err-Memory c = rw c.then-self-inside-in-Err-Memory.ensures (kept_still _ _ _ c.self.invariant (λ texts. refl) (λ other. refl) tt tt)

pub invariant_of-self-in-Err-Failed : goal.invariant_of-self-in-Err-Failed
invariant_of-self-in-Err-Failed c = rw c.then-self-inside-in-Err-Failed.ensures (kept_still _ _ _ c.self.invariant (λ texts. refl) (λ other. refl) tt tt)
