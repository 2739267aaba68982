use Rattle.state_laws.proofs.states.SummaryLaws.{summary_unique}
use Rattle.state_laws.proofs.state.one_summary.Goals as goal

pub returns : goal.returns
returns c = summary_unique
