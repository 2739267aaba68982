use Rattle.state_laws.proofs.states.LapsedGreatest.{greatest_op_lapses, greatest_lapses}
use Rattle.state_laws.proofs.state.laws_of_lapse.Goals as goal

pub returns-clause-greatest : goal.returns-clause-greatest
returns-clause-greatest c = greatest_op_lapses

pub returns-clause-of_key : goal.returns-clause-of_key
returns-clause-of_key c = greatest_lapses
