use Rattle.state_text.proofs.StepLemmas.{item_follows}
use Rattle.state_text.proofs.steps.after_item.Goals as goal

pub item-requires-clause-ledger : goal.item-requires-clause-ledger
item-requires-clause-ledger g c = item_follows _ _ _ _ c.ledger.ensures c.requires.1.0.1 c.in_ok-item.ensures.0 c.in_ok-item.ensures.1
