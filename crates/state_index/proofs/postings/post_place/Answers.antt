use Rattle.state_index.proofs.PostedSpots.{posted_one}
use Rattle.state_index.proofs.postings.post_place.Goals as goal

pub returns : goal.returns
returns c = posted_one _ _ _ _ _ _ c.rank_in.ensures c.push_reserved.ensures.items c.push_reserved.ensures.len c.push_reserved.ensures.capacity
