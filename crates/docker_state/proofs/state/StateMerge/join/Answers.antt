use Rattle.cif_laws.proofs.Common.{subst, sym, ◌∙◌, IfOk-weaker, IsJoin, raise_horizon}
use Rattle.state_laws.proofs.joins.JoinLaws.{join_commutes}
use Rattle.state_laws.proofs.states.SummaryLaws.{join_is_summary}
use Rattle.docker_state.proofs.state.StateMerge.join.Goals as goal

pub returns-in-Ok-clause-ok : goal.returns-in-Ok-clause-ok
returns-in-Ok-clause-ok c =
    subst (IsJoin c.args.self c.args.other)
    (sym (c.raised.ensures ∙ (λ i. raise_horizon (c.horizon-theirs.ensures.horizon i) (c.in-Ok.ensures.ok i)))) (c.covers.ensures c.if-covers.true)

pub returns-in-Ok-clause-summary : goal.returns-in-Ok-clause-summary
returns-in-Ok-clause-summary c = λ files others g h one two. join_is_summary _ _ _ _ _ _ _ one two (returns-in-Ok-clause-ok c)

pub returns-in-Ok-indexed_like-clause-ok : goal.returns-in-Ok-indexed_like-clause-ok
returns-in-Ok-indexed_like-clause-ok c = subst (IsJoin c.args.self c.args.other)
    (sym (c.raised-in-Ok-indexed_like.ensures ∙ (λ i. raise_horizon (c.horizon-own.ensures.horizon i) (c.in-Ok-indexed_like.ensures.ok i))))
    (join_commutes _ _ _ (c.covers-2.ensures c.if-covers-2.true))

pub returns-in-Ok-indexed_like-clause-summary : goal.returns-in-Ok-indexed_like-clause-summary
returns-in-Ok-indexed_like-clause-summary c = λ files others g h one two. join_is_summary _ _ _ _ _ _ _ one two (returns-in-Ok-indexed_like-clause-ok c)

pub returns-clause-summary : goal.returns-clause-summary
returns-clause-summary c = λ files others g h one two. IfOk-weaker c.join_into_longer.result _ _ (λ joined is. join_is_summary _ _ _ _ _ _ _ one two is)
    c.join_into_longer.ensures.ok
