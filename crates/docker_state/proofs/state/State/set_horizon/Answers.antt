use Rattle.cif_laws.proofs.Common.{ap, sym, ◌∙◌, subst, max, raise_horizon, IsSummary}
use Rattle.state_laws.proofs.states.SummaryLaws.{raised_summary}
use Rattle.docker_state.proofs.state.State.set_horizon.Goals as goal

pub returns-clause-raised : goal.returns-clause-raised
returns-clause-raised c = c.raise.ensures ∙ ap (λ day. raise_horizon day c.args.self.now) c.number.ensures.value

pub returns-clause-summary : goal.returns-clause-summary
returns-clause-summary c = λ files horizon summary.
    subst (IsSummary files (max horizon c.args.day)) (sym (returns-clause-raised c)) (raised_summary files horizon c.args.day c.args.self.now summary)
