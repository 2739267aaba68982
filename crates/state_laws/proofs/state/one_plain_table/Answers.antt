use Rattle.state_laws.proofs.states.OnePlainTable.{some_plain_table, one_plain_table}
use Rattle.state_laws.proofs.state.one_plain_table.Goals as goal

pub returns-clause-some : goal.returns-clause-some
returns-clause-some c = some_plain_table

pub returns-clause-one : goal.returns-clause-one
returns-clause-one c = one_plain_table
