use Rattle.cif_laws.proofs.Common.{ap, Some, None}
use Rattle.docker_state.proofs.StateLemmas.{floor_found}
use Rattle.docker_state.proofs.floor.floor_of.Goals as goal

pub returns-in-Some : goal.returns-in-Some
returns-in-Some c = floor_found _ c.requires _ c.in-Some.ensures _ (ap Some c.stamp.ensures)

pub returns-in-None : goal.returns-in-None
returns-in-None c = floor_found c.args.items.now c.requires None c.in-None.ensures None (λ i. None)
