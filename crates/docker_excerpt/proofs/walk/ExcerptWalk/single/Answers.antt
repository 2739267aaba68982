use Rattle.cif_laws.proofs.Common.{◌∙◌, map, ap, sym}
use Rattle.docker_join.specs.Meaning.{entry_meant, row_meant}
use Rattle.docker_excerpt.specs.declared.walk.ExcerptWalk.{ExcerptWalk}
use Rattle.docker_excerpt.specs.Walked.{state_of_entries}
use Rattle.docker_excerpt.proofs.WalkTurns.{walk_here, walk_elsewhere}
use Rattle.docker_excerpt.proofs.WalkSteps.{rows_more, names_with_some, names_with_none, walk_by}
use Rattle.docker_excerpt.proofs.walk.ExcerptWalk.single.Goals as goal
use Rattle.docker_excerpt.proofs.walk.ExcerptWalk.single.Goals.{in-Some+in_ok-push, in_default}

pub returns-then-not-is_here-clause-ok : goal.returns-then-not-is_here-clause-ok
returns-then-not-is_here-clause-ok c = λ ok. walk_elsewhere _ (state_of_entries c.args.given.now.entries) _ _ _ _ c.requires.walked _
    (entry_meant c.args.entry) c.requires.above c.requires.alone (sym c.is_here.ensures ∙ c.if-not-is_here.true)

pub returns-clause-ok : goal.returns-clause-ok
returns-clause-ok c = λ ok.
    let here = walk_here _ (state_of_entries c.args.given.now.entries) _ _ _ _ c.requires.walked _ (entry_meant c.args.entry) c.requires.above
    c.requires.alone (sym c.is_here.ensures ∙ c.if-not-is_here.false) in
    elim c.match-name_in.branch [
      | in-Some+in_ok-push w ↦ walk_by (ap (λ (s : ExcerptWalk). s.place) w.self-is)
          (rows_more _ _ _ c.args.key c.args.entry (ap (λ (s : ExcerptWalk). s.kept.items) w.self-is ∙ c.in_ok-reserve.ensures.items)
          c.push_reserved.ensures.items)
          (ap (λ (s : ExcerptWalk). map row_meant s.run.items) w.self-is) (ap (λ (s : ExcerptWalk). s.needed) w.self-is)
          (ap (λ (s : ExcerptWalk). s.names.items) w.self-is
          ∙ names_with_some _ _ _ _ _ w.in_ok-push.ensures.items w.in-Some.is c.name_in.ensures) here
      | in_default w ↦ walk_by (ap (λ (s : ExcerptWalk). s.place) w.self-is)
          (rows_more _ _ _ c.args.key c.args.entry (ap (λ (s : ExcerptWalk). s.kept.items) w.self-is ∙ c.in_ok-reserve.ensures.items)
          c.push_reserved.ensures.items)
          (ap (λ (s : ExcerptWalk). map row_meant s.run.items) w.self-is) (ap (λ (s : ExcerptWalk). s.needed) w.self-is)
          (ap (λ (s : ExcerptWalk). s.names.items) w.self-is ∙ names_with_none _ _ _ w.in_default.is c.name_in.ensures) here
    ]
