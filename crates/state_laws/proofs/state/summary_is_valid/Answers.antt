use Rattle.state_laws.proofs.states.SummaryValid.{summary_is_valid}
use Rattle.state_laws.proofs.state.summary_is_valid.Goals as goal

pub returns : goal.returns
returns c = summary_is_valid
