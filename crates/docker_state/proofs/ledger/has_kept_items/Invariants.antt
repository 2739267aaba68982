use Rattle.cif_laws.proofs.Common.{map, AllWithin}
use Rattle.docker_join.specs.Meaning.{floor_meant}
use Rattle.docker_state.specs.Meaning.{item_meant}
use Rattle.docker_state.specs.Staging.{HasIfKept}
use Rattle.docker_state.proofs.ledger.has_kept_items.Given as goal

abbrev pub invariant-loop-item : goal.invariant-loop-item
invariant-loop-item l =
    AllWithin (λ item. HasIfKept (map item_meant l.ledger) (item_meant item) (floor_meant l.floor)) l.items 0 l.item-index
