use Rattle.cif_laws.proofs.Common.{[], arith}
use Rattle.state_laws.proofs.texts.LedgerGrown.{no_items}
use Rattle.state_laws.proofs.texts.StateGrown.{valid_without}
use Rattle.docker_state.proofs.parts.Parts.new.Goals as goal

pub invariant_of-result : goal.invariant_of-result
invariant_of-result c = rw (c.new.ensures.items, c.new-2.ensures.items) (valid_without 0 [] (omega arith) no_items)
