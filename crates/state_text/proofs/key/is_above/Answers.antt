use Rattle.cif_laws.proofs.Common.{Key, Entry, key_cmp}
use Rattle.cif_laws.proofs.orders.Orders.{key_total}
use Rattle.state_text.proofs.LastElement.{above_last, above_none}
use Rattle.state_text.proofs.key.is_above.Goals as goal

pub returns-in-Some : goal.returns-in-Some
returns-in-Some g c = above_last (λ (e : Key × Entry). e.0) key_cmp key_total _ _ _ _ c.requires c.in-Some.ensures c.lt.ensures

pub returns-in-None : goal.returns-in-None
returns-in-None g c = above_none (λ (e : Key × Entry). e.0) key_cmp key_total _ _ c.in-None.ensures
