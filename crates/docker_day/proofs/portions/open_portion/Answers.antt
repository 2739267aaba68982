use Rattle.cif_laws.proofs.Common.{◌∙◌}
use Rattle.docker_day.proofs.RowPortions.{left_again, none_after, none_behind}
use Rattle.docker_day.proofs.portions.open_portion.Goals as goal

pub loop-may_run-preserved : goal.loop-may_run-preserved
loop-may_run-preserved c = record {
  good = c.open_next.ensures.left.good c.loop-may_run.invariant.good;
  left = left_again c.args.rows.now c.loop-may_run.rows c.open_next.new.rows c.loop-may_run.invariant.left c.open_next.ensures.left;
  opened = c.open_next.ensures.opened ∙ c.loop-may_run.invariant.opened;
  passed = none_behind c.args.day c.args.rows.now c.loop-may_run.rows c.open_next.new.rows c.loop-may_run.some c.in-Some.may_run
      c.loop-may_run.invariant.left c.loop-may_run.invariant.passed c.in-Some.ensures.passed;
}

pub returns-clause-left : goal.returns-clause-left
returns-clause-left c = left_again c.args.rows.now c.loop-may_run.rows c.open_next.new.rows c.loop-may_run.invariant.left c.open_next.ensures.left

pub returns-clause-passed : goal.returns-clause-passed
returns-clause-passed c =
    none_after c.args.day c.args.rows.now c.loop-may_run.rows c.open_next.new.rows c.loop-may_run.some c.open_next.result c.loop-may_run.invariant.left
    c.loop-may_run.invariant.passed c.in_default.not-Some c.open_next.ensures.passed
