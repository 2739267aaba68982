use Rattle.cif_laws.proofs.Common.{List, map, subst, IsFloor, State}
use Rattle.docker_state.specs.declared.item.LedgerItem.{LedgerItem}
use Rattle.docker_join.specs.Meaning.{floor_meant}
use Rattle.docker_state.specs.Meaning.{item_meant}
use Rattle.docker_state.proofs.state.State.floor.Goals as goal

pub returns : goal.returns
returns c =
    subst (λ (s : State). IsFloor s.ledger (floor_meant c.floor_of.result)) c.self.view_is
    (subst (λ (items : List LedgerItem). IsFloor (map item_meant items) (floor_meant c.floor_of.result)) c.as_slice.ensures.value c.floor_of.ensures)
