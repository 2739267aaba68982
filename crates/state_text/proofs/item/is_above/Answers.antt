use Rattle.cif_laws.proofs.Common.{map, rules, length-map, LedgerItem, ledger_item_cmp}
use Rattle.std.proofs.lemmas.Option.{slice_get-map}
use Rattle.cif_laws.proofs.orders.Orders.{ledger_item_total}
use Rattle.docker_state.specs.Meaning.{item_meant}
use Rattle.state_text.proofs.LastElement.{above_last}
use Rattle.state_text.proofs.item.is_above.Goals as goal

pub returns-in-Some : goal.returns-in-Some
returns-in-Some c =
    let last = c.in-Some.ensures.value in
    above_last (λ (it : LedgerItem). it) ledger_item_cmp ledger_item_total (map item_meant c.args.ledger.now) (item_meant c.in-Some.last.now) _ _
    c.requires.ascending (search (rules, slice_get-map, length-map)) c.lt.ensures
