use Rattle.cif_laws.proofs.Common.{rules}
use Rattle.cif_laws.proofs.orders.AtMost.{eq_is}
use Rattle.cif_laws.proofs.orders.Orders.{key_total, exact_key}
use Rattle.state_text.proofs.body.is_same.Goals as goal

pub returns : goal.returns
returns c = search (rules, exact_key, eq_is, key_total)
