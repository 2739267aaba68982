use Rattle.cif_laws.proofs.Common.{◌≡◌, [], false, length}
use Rattle.train_choice.specs.Along.{AreGoodRows}
use Rattle.docker_day.specs.Portions.{AreLeft, AreOpened, ArePassedOver}
use Rattle.docker_day.proofs.portions.open_portion.Given as goal

-- the rows of the portion, followed by the remaining rows, are all rows. If no row of the portion
-- may have lines, the whole portion may be skipped
abbrev pub invariant-loop-may_run : goal.invariant-loop-may_run
invariant-loop-may_run l = record {
  good : AreGoodRows l.rows;
  left : AreLeft l.fn.rows l.rows;
  opened : AreOpened l.fn.rows l.rows [] l.portion.items;
  passed : l.some ≡ false → ArePassedOver l.day l.fn.rows l.rows;
}

abbrev pub decreases-loop-may_run : goal.decreases-loop-may_run
decreases-loop-may_run l = length l.rows
