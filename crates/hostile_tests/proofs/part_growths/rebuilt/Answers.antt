use Rattle.std.proofs.Common.{refl, ap, sym, subst, arith, IsOk}
use Rattle.docker_model.specs.state.State.{State}
use Rattle.hostile_tests.proofs.OneRow.{good_copy, here_copy}
use Rattle.hostile_tests.proofs.part_growths.rebuilt.Goals as goal

pub entry-given-requires-clause-here : goal.entry-given-requires-clause-here
entry-given-requires-clause-here c =
    here_copy c.ledger-items.result.now c.index-items-0.result _ (omega arith) c.index-items-0.is c.entries-rows.result.now c.index-rows-0.result _
    (omega arith) c.index-rows-0.is
    c.args.one.now c.ledger-items.ensures.items c.entries-rows.ensures.rows c.ledger-items.ensures.valid c.in_ok-copy.copy c.in_ok-copy.ensures
    c.new-parts.result.ledger (ap (λ (s : State). s.ledger) c.new-parts.ensures) c.item-given.new.self
    (c.item-given.ensures.ok (subst IsOk (sym c.in_default.is) refl))

pub entry-given-requires-clause-op : goal.entry-given-requires-clause-op
entry-given-requires-clause-op c =
    (good_copy c.ledger-items.result.now c.index-items-0.result _ (omega arith) c.index-items-0.is c.entries-rows.result.now c.index-rows-0.result _
    (omega arith) c.index-rows-0.is
    c.args.one.now c.ledger-items.ensures.items c.entries-rows.ensures.rows c.ledger-items.ensures.valid c.in_ok-copy.copy c.in_ok-copy.ensures).op
