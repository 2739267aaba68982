use Rattle.std.proofs.Common.{subst}
use Rattle.std.proofs.lemmas.Result.{err_from_is_err_and}
use Rattle.docker_model.specs.state.State.{State}
use Rattle.docker_model.specs.state.StateText.{dks_2}
use Rattle.docker_bytes.specs.SourceRead.{JoinsState}
use Rattle.docker_office.proofs.OfficeLemmas.{joins_summaries, unread_by_office}
use Rattle.docker_office.proofs.office.Office.receive.Goals as goal

pub returns-clause-reads : goal.returns-clause-reads
returns-clause-reads g c =
    let read = c.in_ok-join_state.ensures.reads in
    record {
      few = read.few;
      outcome =
          subst (λ (own : State). JoinsState dks_2 c.args.limit (g.S.Source.left c.args.source.now) own c.join_state.new.state) c.self.view_is read.outcome;
      failures = read.failures;
    }

pub returns-clause-summary : goal.returns-clause-summary
returns-clause-summary g c = λ done. joins_summaries _ _ _ _
    (subst (λ (own : State). JoinsState dks_2 c.args.limit (g.S.Source.left c.args.source.now) own c.join_state.new.state) c.self.view_is
    c.in_ok-join_state.ensures.reads.outcome)

pub returns-in_err-join_state-clause-reads : goal.returns-in_err-join_state-clause-reads
returns-in_err-join_state-clause-reads g c =
    let same = err_from_is_err_and c.from_residual.result c.from_residual.ensures.1 in
    rw (same.1, same.2) (unread_by_office g.S.Source.left g.S.Source.failures _ _ _ _ _ c.in_err-join_state.ensures.reads)
