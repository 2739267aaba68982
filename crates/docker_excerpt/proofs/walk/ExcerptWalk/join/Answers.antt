use Rattle.cif_laws.proofs.Common.{refl}
use Rattle.cif_change.specs.declared.key.Key.TheVariants as key
use Rattle.docker_join.specs.Meaning.{entry_meant}
use Rattle.docker_excerpt.specs.Walked.{state_of_entries}
use Rattle.docker_excerpt.proofs.WalkTurns.{walk_joins}
use Rattle.docker_excerpt.proofs.WalkSteps.{rows_more, walk_by}
use Rattle.docker_excerpt.proofs.walk.ExcerptWalk.join.Goals as goal

pub returns-clause-ok : goal.returns-clause-ok
returns-clause-ok c = λ ok.
    walk_by refl refl (rows_more _ _ _ (key.Schedule c.args.key) c.args.entry refl c.in_ok-push.ensures.items) c.is_needed_with-needed.ensures refl
    (walk_joins _ (state_of_entries c.args.given.now.entries) _ _ _ _ c.requires.walked _ (entry_meant c.args.entry) c.requires.same)
