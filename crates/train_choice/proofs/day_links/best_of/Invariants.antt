use Rattle.cif_laws.proofs.Common.{◌≡◌, None, get, Group}
use Rattle.train_choice.specs.Along.{link_along, AreGoodRows}
use Rattle.train_choice.specs.Known.{group_cmp}
use Rattle.train_choice.proofs.day_links.best_of.Given as goal

-- in each group, the best association among `best` and the remaining rows is the best association among all rows
abbrev pub invariant-loop-key : goal.invariant-loop-key
invariant-loop-key l = record {
  best : (group : Group) → link_along group l.day (get group_cmp l.best group) l.key-iterator ≡ link_along group l.day None l.fn.rows;
  good : AreGoodRows l.key-iterator;
}
