use Rattle.cif_laws.proofs.orders.ByteOrder.{key_order, item_order}
use Rattle.state_laws.proofs.text.order_of_bytes.Goals as goal

pub returns-clause-keys : goal.returns-clause-keys
returns-clause-keys c = key_order

pub returns-clause-items : goal.returns-clause-items
returns-clause-items c = item_order
