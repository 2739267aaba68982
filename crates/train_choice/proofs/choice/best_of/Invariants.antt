use Rattle.cif_laws.proofs.Common.{◌≡◌}
use Rattle.train_choice.specs.Along.{chosen_along, AreGoodRows}
use Rattle.train_choice.proofs.choice.best_of.Given as goal

-- the best schedule among `found` and the remaining rows is the best schedule among `so_far` and
-- all rows
abbrev pub invariant-loop-key : goal.invariant-loop-key
invariant-loop-key l = record {
  best : chosen_along l.uid l.day l.found l.key-iterator ≡ chosen_along l.uid l.day l.fn.so_far l.fn.rows;
  good : AreGoodRows l.key-iterator;
}
