use Rattle.state_laws.proofs.joins.JoinValid.{raised_is_valid}
use Rattle.state_laws.proofs.joins.RaisedHorizon.{not_greater}
use Rattle.state_laws.proofs.state.laws_of_setting.Goals as goal

pub returns-clause-valid : goal.returns-clause-valid
returns-clause-valid c = raised_is_valid

pub returns-clause-not_greater : goal.returns-clause-not_greater
returns-clause-not_greater c = not_greater
