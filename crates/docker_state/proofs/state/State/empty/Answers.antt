use Rattle.cif_laws.proofs.Common.{arith}
use Rattle.state_laws.proofs.texts.LedgerGrown.{no_items}
use Rattle.state_laws.proofs.texts.StateGrown.{valid_without}
use Rattle.docker_state.proofs.state.State.empty.Goals as goal

pub invariant_of-result : goal.invariant_of-result
invariant_of-result c = rw (c.new.ensures.items, c.new-2.ensures)
    (record { valid = valid_without _ _ (omega arith) no_items; indexed = c.new-3.ensures.index; room = c.new-3.ensures.room })
