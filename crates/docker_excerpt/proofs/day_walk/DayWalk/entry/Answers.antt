use Rattle.docker_excerpt.proofs.NearWalk.{near_above}
use Rattle.docker_excerpt.proofs.day_walk.DayWalk.entry.Goals as goal

pub entry-requires-clause-above : goal.entry-requires-clause-above
entry-requires-clause-above c = near_above _ _ _ _ _ c.requires.passed.near_is c.requires.above
