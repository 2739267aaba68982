use Rattle.cif_laws.proofs.Common.{sym, ap, ◌∙◌, subst, IsJoin}
use Rattle.docker_state.specs.Staging.{Staging}
use Rattle.state_text.specs.Receiving.{items_of, given_of, IsStagedOf}
use Rattle.state_text.proofs.ReceivingLemmas.{commit_joins, none_staged}
use Rattle.state_text.proofs.receiving.Receiving.finish.Goals as goal
use Rattle.state_text.proofs.receiving.Receiving.finish.Goals.{in-Some, in-None+in-Ok}

pub returns-clause-ok : goal.returns-clause-ok
returns-clause-ok g c = λ ok horizon valid.
    let it = c.args.self in
    subst (λ own. IsJoin own (given_of it) c.commit-done.new.self) c.requires.own_is (elim c.match-staging.branch [
      | in-Some w ↦ commit_joins _ _ it.items.items it.staging _ c.match-staging.staging horizon c.requires.valid valid
          (ap (items_of it.items.items) w.in-Some.is ∙ ap (λ (s : Staging). s.items) (sym w.staging-is))
          (subst (λ s. IsStagedOf it.own s it.given.entries) (sym w.staging-is) (c.requires.some _ w.in-Some.is)) (c.commit-done.ensures.commit ok)
      | in-None+in-Ok w ↦ commit_joins _ _ it.items.items it.staging _ c.match-staging.staging horizon c.requires.valid valid
          (ap (items_of it.items.items) w.in-None.is ∙ sym w.in-Ok.ensures.items ∙ ap (λ (s : Staging). s.items) (sym w.staging-is))
          (subst (λ s. IsStagedOf it.own s it.given.entries) (sym w.staging-is)
          (none_staged it.own _ it.given.entries (c.requires.none w.in-None.is) w.in-Ok.ensures.staged w.in-Ok.ensures.floor)) (c.commit-done.ensures.commit ok)
    ])
