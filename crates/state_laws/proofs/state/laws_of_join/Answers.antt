use Rattle.state_laws.proofs.joins.JoinLaws.{join_commutes, join_associates, join_idempotent, join_unique}
use Rattle.state_laws.proofs.state.laws_of_join.Goals as goal

pub returns-clause-commutative : goal.returns-clause-commutative
returns-clause-commutative c = join_commutes

pub returns-clause-associative : goal.returns-clause-associative
returns-clause-associative c = join_associates

pub returns-clause-idempotent : goal.returns-clause-idempotent
returns-clause-idempotent c = join_idempotent

pub returns-clause-one : goal.returns-clause-one
returns-clause-one c = join_unique
