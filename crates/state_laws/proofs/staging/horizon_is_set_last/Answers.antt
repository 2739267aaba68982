use Rattle.state_laws.proofs.joins.RaisedHorizon.{set_last, join_then_set}
use Rattle.state_laws.proofs.staging.horizon_is_set_last.Goals as goal

pub returns-clause-state : goal.returns-clause-state
returns-clause-state c = set_last

pub returns-clause-join : goal.returns-clause-join
returns-clause-join c = join_then_set
