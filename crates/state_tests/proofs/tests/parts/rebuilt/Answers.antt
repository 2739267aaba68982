use Rattle.std.proofs.Common.{ap, arith}
use Rattle.std.specs.Prelude.{is_ok}
use Rattle.docker_model.specs.state.State.{State}
use Rattle.state_tests.proofs.TestLemmas.{one_item, one_entry}
use Rattle.state_tests.proofs.tests.parts.rebuilt.Goals as goal

pub item-requires-clause-ledger : goal.item-requires-clause-ledger
item-requires-clause-ledger g c =
    one_item c.ledger-items.result.now c.index-items-0.result _
    (omega arith) c.index-items-0.is c.args.one.now c.ledger-items.ensures.items c.ledger-items.ensures.valid
    c.new-parts.result.ledger (ap (λ (s : State). s.ledger) c.new-parts.ensures)

pub entry-requires-clause-here : goal.entry-requires-clause-here
entry-requires-clause-here g c =
    one_entry c.ledger-items.result.now c.index-items-0.result _ (omega arith) c.index-items-0.is c.entries-rows.result.now c.index-rows-0.result _
    (omega arith) c.index-rows-0.is
    c.args.one.now c.ledger-items.ensures.items c.entries-rows.ensures.rows c.ledger-items.ensures.valid
    c.new-parts.result.ledger (ap (λ (s : State). s.ledger) c.new-parts.ensures) c.item.new.self (c.item.ensures.ok (ap is_ok c.expect.ensures))
