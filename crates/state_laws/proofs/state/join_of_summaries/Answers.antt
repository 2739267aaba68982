use Rattle.state_laws.proofs.states.SummaryLaws.{join_is_summary}
use Rattle.state_laws.proofs.state.join_of_summaries.Goals as goal

pub returns : goal.returns
returns c = join_is_summary
