use Rattle.state_laws.proofs.joins.JoinValid.{one_floor, floor_is_first_full}
use Rattle.state_laws.proofs.state.floor_of_ledger.Goals as goal

pub returns-clause-one : goal.returns-clause-one
returns-clause-one c = λ state first second valid. one_floor state first second

pub returns-clause-first : goal.returns-clause-first
returns-clause-first c = floor_is_first_full
