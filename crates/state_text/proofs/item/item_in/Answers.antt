use Rattle.cif_laws.proofs.Common.{rules}
use Rattle.state_text.proofs.ItemLemmas.{item_told}
use Rattle.state_text.proofs.item.item_in.Goals as goal

pub returns : goal.returns
returns c = search (rules, item_told)
