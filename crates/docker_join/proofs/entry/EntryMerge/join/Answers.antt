use Rattle.cif_laws.proofs.Common.{⊤, on_total}
use Rattle.cif_laws.proofs.orders.Orders.{entry_total}
use Rattle.docker_join.specs.Meaning.{entry_meant}
use Rattle.cif_laws.proofs.orders.Greater.{greater_max}
use Rattle.docker_join.proofs.entry.EntryMerge.join.Goals as goal

pub returns-clause-ok : goal.returns-clause-ok
returns-clause-ok c = rw c.pick.ensures (greater_max (λ _. ⊤) (on_total entry_meant entry_total) _ _)
