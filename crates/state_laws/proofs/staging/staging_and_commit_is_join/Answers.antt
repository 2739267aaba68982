use Rattle.state_laws.proofs.joins.StagedJoin.{one_staged, one_commit}
use Rattle.state_laws.proofs.joins.StagedEntry.{staging_joins, staging_joins_before, commit_is_valid}
use Rattle.state_laws.proofs.joins.StagedState.{staged_is_valid, join_with_staged}
use Rattle.state_laws.proofs.staging.staging_and_commit_is_join.Goals as goal

pub returns-clause-join : goal.returns-clause-join
returns-clause-join c = staging_joins

pub returns-clause-one_staged : goal.returns-clause-one_staged
returns-clause-one_staged c = one_staged

pub returns-clause-one_commit : goal.returns-clause-one_commit
returns-clause-one_commit c = one_commit

pub returns-clause-valid : goal.returns-clause-valid
returns-clause-valid c = staged_is_valid

pub returns-clause-by_join : goal.returns-clause-by_join
returns-clause-by_join c = join_with_staged

pub returns-clause-before_horizon : goal.returns-clause-before_horizon
returns-clause-before_horizon c = staging_joins_before

pub returns-clause-stays_valid : goal.returns-clause-stays_valid
returns-clause-stays_valid c = commit_is_valid
