use Rattle.docker_state.proofs.Newest.{above_each}
use Rattle.docker_state.proofs.ledger.is_above_all.Goals as goal

pub returns-in-Some : goal.returns-in-Some
returns-in-Some c = above_each _ _ _ _ _ _ _ c.in-Some.ensures.cases.0 c.requires c.stamp.ensures c.lt.ensures
