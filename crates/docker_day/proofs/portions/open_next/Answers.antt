use Rattle.docker_day.proofs.RowPortions.{row_passed}
use Rattle.docker_day.proofs.portions.open_next.Goals as goal

pub returns-clause-passed : goal.returns-clause-passed
returns-clause-passed c = row_passed _ _ _ _ _ _ _ c.in_ok-row.ensures.steps c.requires c.of-view.ensures c.may_row_run-may_run.ensures
