use Rattle.state_laws.proofs.joins.JoinValid.{join_is_valid}
use Rattle.state_laws.proofs.state.join_is_valid.Goals as goal

pub returns : goal.returns
returns c = join_is_valid
