use Rattle.docker_day.proofs.RowPortions.{live_at}
use Rattle.docker_day.proofs.portions.add_portion.Goals as goal

pub add_row-requires : goal.add_row-requires
add_row-requires c = live_at _ _ _ _ _ c.loop-row.invariant.same c.requires c.loop-row-test.true c.loop-row-item.is
