use Rattle.cif_laws.proofs.Common.{inl, inr, refl, ⊤, err_from_is_err_and, most_records, dks_2}
use Rattle.docker_office.specs.Office.{TakesFile}
use Rattle.docker_cmd.proofs.ReadingLemmas.{file_failed, file_refused, file_unread, state_failed_alone, state_refused_alone}
use Rattle.docker_cmd.proofs.sources.office_of_state_and_file.Goals as goal

pub returns-in_err-taker-clause-reads : goal.returns-in_err-taker-clause-reads
returns-in_err-taker-clause-reads g c =
    let same = err_from_is_err_and c.from_residual.result c.from_residual.ensures.1 in
    rw (same.1, same.2) (record {
      outcome = file_unread _ _ _ _ (state_refused_alone dks_2 _ _ _ _ _ _ c.in_err-taker.ensures.reads);
      none = λ none. let never : ⊥ = cc in absurd never;
      order = inl refl;
      counted = state_failed_alone _ _ _ _ c.in_err-taker.ensures.reads.failures;
    })

pub returns-in_err-take-clause-reads : goal.returns-in_err-take-clause-reads
returns-in_err-take-clause-reads g c =
    let same = err_from_is_err_and c.from_residual-in_err-take.result c.from_residual-in_err-take.ensures.1 in
    let first = c.in_ok-taker.ensures.reads in
    let second = g.T.Source.left c.args.second.now in
    let took = c.in_err-take.ensures.takes in
    rw (same.1, same.2) (record {
      outcome = file_refused (λ (_ : ⊤). TakesFile most_records second c.in_ok-taker.taker c.take.new.self) (g.S.Source.left c.args.first.now)
          (g.S.Source.left c.read.new.source) second (g.T.Source.left c.take.new.source) _ (_, first.outcome) first.few took.no_further
          took.outcome;
      none = λ none. let never : ⊥ = cc in absurd never;
      order = inr (inl refl, (_, first.outcome), first.failures);
      counted = file_failed ⊤ _ _ _ _ _ first.failures took.failures;
    })

pub returns-clause-reads : goal.returns-clause-reads
returns-clause-reads g c =
    let first = c.in_ok-taker.ensures.reads in
    let took = c.in_ok-take.ensures.takes in
    record {
      outcome = record {
        first_few = first.few;
        second_few = inr ((_, first.outcome), took.no_further);
        ends = (record { own = _; reads = first.outcome; takes = took.outcome.0 }, took.outcome.1);
      };
      none = λ none. let never : ⊥ = cc in absurd never;
      order = inr (inl refl, (_, first.outcome), first.failures);
      counted = (first.failures, took.failures);
    }
