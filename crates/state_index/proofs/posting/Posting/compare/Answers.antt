use Rattle.state_index.proofs.PostingOrders.{halves_cmp}
use Rattle.state_index.proofs.posting.Posting.compare.Goals as goal

pub returns : goal.returns
returns c = rw c.cmp.ensures (rw c.number.ensures.number (rw c.number-2.ensures.number (halves_cmp _ _ _ _ c.number.ensures.row c.number-2.ensures.row)))
