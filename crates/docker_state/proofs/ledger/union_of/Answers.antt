use Rattle.cif_laws.proofs.Common.{arith, rules}
use Rattle.cif_laws.proofs.orders.Orders.{ledger_item_total, exact_ledger_item}
use Rattle.docker_state.specs.Meaning.{item_meant}
use Rattle.docker_state.proofs.LedgerUnion.{out_ascends, out_members}
use Rattle.docker_state.proofs.ledger.union_of.Goals as goal

pub returns-clause-ascending : goal.returns-clause-ascending
returns-clause-ascending c =
    out_ascends item_meant ledger_item_total exact_ledger_item c.args.first.now c.args.second.now c.loop-first.items.items c.loop-first.first.now
    c.loop-first.second.now
    (first_of (omega arith, search rules, grind arith))
    (first_of (omega arith, search rules, grind arith)) c.loop-first.invariant.out c.requires.first c.requires.second

pub returns-clause-members : goal.returns-clause-members
returns-clause-members c =
    out_members item_meant ledger_item_total exact_ledger_item c.args.first.now c.args.second.now c.loop-first.items.items c.loop-first.first.now
    c.loop-first.second.now
    (first_of (omega arith, search rules, grind arith)) (first_of (omega arith, search rules, grind arith)) c.loop-first.invariant.out
