use Rattle.state_text.proofs.BufferLemmas.{flush_gives}
use Rattle.state_text.proofs.buffer.make_room.Goals as goal

pub returns-then-remaining_capacity-more-clause-gives : goal.returns-then-remaining_capacity-more-clause-gives
returns-then-remaining_capacity-more-clause-gives g c = flush_gives _ _ _ _ _ _ _ c.flush.ensures.gives c.flush.ensures.empty
