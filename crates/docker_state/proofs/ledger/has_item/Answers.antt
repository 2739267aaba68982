use Rattle.cif_laws.proofs.orders.Orders.{ledger_item_total, exact_ledger_item}
use Rattle.state_index.proofs.Search.{search_tells}
use Rattle.docker_state.proofs.ledger.has_item.Goals as goal

pub returns : goal.returns
returns c = search_tells _ ledger_item_total exact_ledger_item _ c.requires _
    _ c.binary_search.ensures.bound c.binary_search.ensures.position _ c.is_ok.ensures.value
