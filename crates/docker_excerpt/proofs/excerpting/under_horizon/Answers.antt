use Rattle.docker_excerpt.proofs.FinishedExcerpt.{horizon_set}
use Rattle.docker_excerpt.proofs.excerpting.under_horizon.Goals as goal

pub returns-in-Some : goal.returns-in-Some
returns-in-Some c = horizon_set _ _ _ _ c.requires.plain c.in-Some.is c.requires.valid c.set_horizon.ensures.raised
