use Rattle.cif_laws.proofs.Common.{ap}
use Rattle.state_laws.specs.Staging.{staged_state}
use Rattle.docker_state.specs.Staging.{Staging}
use Rattle.docker_state.proofs.PartsLemmas.{valid_with_entry}
use Rattle.docker_state.proofs.StagingLemmas.{entry_here}
use Rattle.docker_state.proofs.staging.Staging.offer.Goals as goal

pub invariant_of-self : goal.invariant_of-self
invariant_of-self c = valid_with_entry _ _ _ (ap (λ (s : Staging). staged_state s.items s.staged) c.self.view_is) c.self.invariant _ _
    (entry_here _ _ _ _ c.requires.above c.requires.good) c.requires.good.op _ c.in_ok-push.ensures.items
