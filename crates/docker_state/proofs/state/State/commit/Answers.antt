use Rattle.cif_laws.proofs.Common.{rules, map, ap, ◌∙◌, subst, State, IsJoin}
use Rattle.state_laws.specs.Staging.{staged_state}
use Rattle.state_laws.proofs.joins.StagedState.{join_with_staged}
use Rattle.docker_state.specs.Meaning.{item_meant}
use Rattle.docker_state.specs.Staging.{Staging}
use Rattle.docker_state.proofs.StagingLemmas.{nothing_new_is_join, something_new}
use Rattle.docker_state.proofs.state.State.commit.Goals as goal

pub returns-then-has_nothing_new-clause-join : goal.returns-then-has_nothing_new-clause-join
returns-then-has_nothing_new-clause-join c = λ _.
    nothing_new_is_join c.args.self.now c.ledger.ensures.valid c.args.staging c.requires.floor (map item_meant c.ledger.result.now) c.ledger.ensures.items
    (c.has_nothing_new.ensures.0 c.if-has_nothing_new.true)

pub returns-then-has_nothing_new-clause-commit : goal.returns-then-has_nothing_new-clause-commit
returns-then-has_nothing_new-clause-commit c = λ ok offered stages.
    join_with_staged c.args.self.now (staged_state c.args.staging.items offered) c.args.staging.floor c.args.staging.staged c.args.self.now
    c.ledger.ensures.valid.entries.1 c.requires.floor stages (returns-then-has_nothing_new-clause-join c ok)

pub returns-in-Ok-clause-commit : goal.returns-in-Ok-clause-commit
returns-in-Ok-clause-commit c = λ _ offered stages.
    join_with_staged c.args.self.now (staged_state c.args.staging.items offered) c.args.staging.floor c.args.staging.staged c.in-Ok.joined
    c.ledger.ensures.valid.entries.1 c.requires.floor stages
    (subst (λ (s : State). IsJoin s (staged_state c.args.staging.items c.args.staging.staged) c.in-Ok.joined) c.replace-own.ensures.value
    (subst (λ (s : State). IsJoin c.replace-own.result s c.in-Ok.joined)
    (c.of_rows-received.ensures ∙ ap (λ (s : Staging). staged_state s.items s.staged) c.staging.view_is) c.in-Ok.ensures.ok))

pub returns-in-Ok-clause-nothing_new : goal.returns-in-Ok-clause-nothing_new
returns-in-Ok-clause-nothing_new c = λ none.
    absurd (something_new c.has_nothing_new.result (map item_meant c.ledger.result.now) c.args.self.now.ledger c.ledger.ensures.items c.args.staging
    c.has_nothing_new.ensures c.if-has_nothing_new.false none)

pub returns-clause-nothing_new : goal.returns-clause-nothing_new
returns-clause-nothing_new c = λ none.
    absurd (something_new c.has_nothing_new.result (map item_meant c.ledger.result.now) c.args.self.now.ledger c.ledger.ensures.items c.args.staging
    c.has_nothing_new.ensures c.if-has_nothing_new.false none)

-- The tactic `auto` proves these goals too. Their proofs are written out so that a wrong body is refused without a long search.
pub returns-clause-err : goal.returns-clause-err
returns-clause-err c = search rules

pub returns-in-Ok-clause-join : goal.returns-in-Ok-clause-join
returns-in-Ok-clause-join c = search rules
