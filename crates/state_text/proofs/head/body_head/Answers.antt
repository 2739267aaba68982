use Rattle.cif_laws.proofs.Common.{◌+◌, ap}
use Rattle.state_text.proofs.HeadLemmas.{body_after}
use Rattle.state_text.proofs.NoHeadLemmas.{too_short, no_put}
use Rattle.state_text.proofs.head.body_head.Goals as goal

pub returns-then-bytes-len : goal.returns-then-bytes-len
returns-then-bytes-len g c = too_short _ _ _ _ c.requires.ledger (ap (λ n. n + 16) c.width.ensures.value) c.if-bytes-len.true

pub returns-in-Some : goal.returns-in-Some
returns-in-Some g c = body_after _ _ _ _ _ _ _ _ _ c.split_at.ensures.by_index.0 c.split_at.ensures.front_len c.in-Some.ensures

pub returns-in-None : goal.returns-in-None
returns-in-None g c = no_put _ _ _ _ _ _ c.requires.ledger
    c.split_at.ensures.by_index.0 c.split_at.ensures.front_len (ap (λ n. n + 16) c.width.ensures.value) c.in-None.ensures
