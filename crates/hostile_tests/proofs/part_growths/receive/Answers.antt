use Rattle.std.proofs.Common.{sym, ◌∙◌, subst, arith, List}
use Rattle.docker_model.specs.state.Stamp as stamps
use Rattle.docker_model.specs.state.State.{IsLedger, IsGoodEntry}
use Rattle.docker_join.specs.Meaning.{row_meant}
use Rattle.hostile_tests.proofs.OneRow.{good_item, good_copy, pushed_item}
use Rattle.hostile_tests.proofs.part_growths.receive.Goals as goal

pub new-requires : goal.new-requires
new-requires c =
    subst IsLedger (sym (pushed_item c.index-items-0.result c.new-ledger.result.items c.push.new.self.items c.new-ledger.ensures.items
    c.in_ok-push.ensures.items))
    (good_item c.ledger-items.result.now c.index-items-0.result _ (omega arith) c.index-items-0.is c.args.other.now c.ledger-items.ensures.items
    c.ledger-items.ensures.valid)

pub offer-offered-requires-clause-good : goal.offer-offered-requires-clause-good
offer-offered-requires-clause-good c =
    subst (λ (xs : List stamps.LedgerItem). IsGoodEntry xs (row_meant c.in_ok-copy.copy))
    (sym (c.in_ok-staging.ensures.items ∙ pushed_item c.index-items-0.result c.new-ledger.result.items c.push.new.self.items c.new-ledger.ensures.items
    c.in_ok-push.ensures.items))
    (good_copy c.ledger-items.result.now c.index-items-0.result _ (omega arith) c.index-items-0.is c.entries-rows.result.now c.index-rows-0.result _
    (omega arith) c.index-rows-0.is
    c.args.other.now c.ledger-items.ensures.items c.entries-rows.ensures.rows c.ledger-items.ensures.valid c.in_ok-copy.copy c.in_ok-copy.ensures)
