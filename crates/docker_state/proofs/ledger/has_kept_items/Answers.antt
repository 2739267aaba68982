use Rattle.cif_laws.proofs.Common.{map, true, rules}
use Rattle.docker_join.specs.Meaning.{floor_meant}
use Rattle.docker_state.specs.Meaning.{item_meant}
use Rattle.docker_state.proofs.LedgerSearch.{has_all, one_more_has}
use Rattle.docker_state.proofs.ledger.has_kept_items.Goals as goal

pub loop-item-preserved : goal.loop-item-preserved
loop-item-preserved c =
    one_more_has item_meant (map item_meant c.args.ledger.now) (floor_meant c.args.floor.now) c.args.items.now c.loop-item.item-index c.item-item.result
    c.loop-item-test.true c.item-item.is c.has_if_kept.result c.has_if_kept.ensures (search rules) c.loop-item.invariant

pub returns : goal.returns
returns c =
    let all = has_all _ _ _ _ _ c.loop-item-test.false c.loop-item.invariant in
    (λ _. all, λ _. λ i. true)
