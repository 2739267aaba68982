use Rattle.state_text.proofs.ReceivingLemmas.{above_staged, offered_more}
use Rattle.state_text.proofs.receiving.offer.Goals as goal

pub offer-requires-clause-above : goal.offer-requires-clause-above
offer-requires-clause-above c = above_staged _ _ _ _ _ c.requires.staged.staged c.requires.here.0.1

pub returns-clause-ok : goal.returns-clause-ok
returns-clause-ok c = λ ok. offered_more _ _ _ _ _ _ c.requires.staged (above_staged _ _ _ _ _ c.requires.staged.staged c.requires.here.0.1)
    (c.offer.ensures.offered ok)
