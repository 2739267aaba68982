use Rattle.docker_state.proofs.PartsLemmas.{valid_with_entry}
use Rattle.docker_state.proofs.parts.Parts.entry.Goals as goal

pub invariant_of-self-2 : goal.invariant_of-self-2
invariant_of-self-2 c = valid_with_entry _ _ _ c.self.view_is c.self.invariant _ _ c.requires.here c.requires.op _ c.in_ok-push.ensures.items
