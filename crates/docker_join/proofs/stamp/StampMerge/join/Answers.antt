use Rattle.cif_laws.proofs.Common.{⊤, on_total}
use Rattle.cif_laws.proofs.orders.Orders.{stamp_total}
use Rattle.docker_join.specs.Meaning.{stamp_meant}
use Rattle.cif_laws.proofs.orders.Greater.{greater_max}
use Rattle.docker_join.proofs.stamp.StampMerge.join.Goals as goal

pub returns-clause-ok : goal.returns-clause-ok
returns-clause-ok c = rw c.pick.ensures (greater_max (λ _. ⊤) (on_total stamp_meant stamp_total) _ _)
