use Rattle.state_laws.proofs.states.SummaryLaws.{raised_summary}
use Rattle.state_laws.proofs.state.setting_on_summary.Goals as goal

pub returns : goal.returns
returns c = raised_summary
