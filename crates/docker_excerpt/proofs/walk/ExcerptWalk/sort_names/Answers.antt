use Rattle.docker_excerpt.specs.Walked.{state_of_entries}
use Rattle.docker_excerpt.proofs.WalkTurns.{walk_sorted}
use Rattle.docker_excerpt.proofs.walk.ExcerptWalk.sort_names.Goals as goal

pub returns-then-is_empty-clause-walked : goal.returns-then-is_empty-clause-walked
returns-then-is_empty-clause-walked c = walk_sorted _ (state_of_entries c.args.given.now.entries) _ _ _ _ c.requires _
    c.sort_unstable.ensures.permutation c.sort_unstable.ensures.sorted
