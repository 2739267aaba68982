use Rattle.cif_laws.proofs.Common.{inl, inr, refl, err_from_is_err_and, dks_2}
use Rattle.docker_cmd.proofs.ReadingLemmas.{state_failed, state_failed_alone, state_refused, state_refused_alone, state_unread}
use Rattle.docker_cmd.proofs.sources.office_of_two_states.Goals as goal

pub returns-in_err-receiver-clause-reads : goal.returns-in_err-receiver-clause-reads
returns-in_err-receiver-clause-reads g c =
    let same = err_from_is_err_and c.from_residual.result c.from_residual.ensures.1 in
    rw (same.1, same.2) (record {
      outcome = state_unread _ _ _ _ (state_refused_alone dks_2 _ _ _ _ _ _ c.in_err-receiver.ensures.reads);
      none = λ none. let never : ⊥ = cc in absurd never;
      order = inl refl;
      counted = state_failed_alone _ _ _ _ c.in_err-receiver.ensures.reads.failures;
    })

pub returns-in_err-receive-clause-reads : goal.returns-in_err-receive-clause-reads
returns-in_err-receive-clause-reads g c =
    let same = err_from_is_err_and c.from_residual-in_err-receive.result c.from_residual-in_err-receive.ensures.1 in
    let first = c.in_ok-receiver.ensures.reads in
    let received = c.in_err-receive.ensures.reads in
    rw (same.1, same.2) (record {
      outcome = state_refused _ _ _ _ _ _ _ (_, first.outcome) first.few received;
      none = λ none. let never : ⊥ = cc in absurd never;
      order = inr (inr refl, (_, first.outcome), first.failures);
      counted = state_failed _ _ _ _ _ first.failures received.failures;
    })

pub returns-clause-reads : goal.returns-clause-reads
returns-clause-reads g c =
    let first = c.in_ok-receiver.ensures.reads in
    let received = c.in_ok-receive.ensures.reads in
    record {
      outcome = record {
        first_few = first.few;
        second_few = inr ((_, first.outcome), received.few);
        ends = (record { own = _; reads = first.outcome; joins = received.outcome }, tt);
      };
      none = λ none. let never : ⊥ = cc in absurd never;
      order = inr (inr refl, (_, first.outcome), first.failures);
      counted = (first.failures, received.failures);
    }
