use Rattle.cif_laws.proofs.Common.{List, map, subst, IsFloor}
use Rattle.docker_state.specs.declared.item.LedgerItem.{LedgerItem}
use Rattle.docker_join.specs.Meaning.{floor_meant}
use Rattle.docker_state.specs.Meaning.{item_meant}
use Rattle.docker_state.proofs.staging.Staging.new.Goals as goal

pub returns-clause-floor : goal.returns-clause-floor
returns-clause-floor c =
    c.common_floor-floor.ensures c.args.state.now.ledger (map item_meant c.args.items.items) c.floor.ensures
    (subst (λ (items : List LedgerItem). IsFloor (map item_meant items) (floor_meant c.floor_of.result)) c.as_slice.ensures.value c.floor_of.ensures)
