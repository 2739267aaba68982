use Rattle.std.proofs.Common.{rules, ◌≡◌, sym, ◌∙◌, ap, subst, map, List}
use Rattle.std.specs.Prelude.{IfOk}
use Rattle.docker_model.specs.file.Change.{Key}
use Rattle.docker_model.specs.state.Op.{Entry}
use Rattle.docker_model.specs.state.Stamp as stamps
use Rattle.docker_model.specs.state.State.{AreEntries}
use Rattle.docker_join.specs.Meaning.{row_meant}
use Rattle.docker_state.specs.Meaning.{item_meant}
use Rattle.docker_state.specs.Staging.{Staging}
use Rattle.state_tests.proofs.tests.staging.receive.Goals as goal

pub offer_all-requires-clause-rows : goal.offer_all-requires-clause-rows
offer_all-requires-clause-rows g c =
    let kept : c.expect-ledger.result.items ≡ c.ledger.result.now = search rules in
    let items : c.expect-staging.result.items ≡ c.args.other.now.ledger =
    subst (λ r. IfOk r (λ (s : Staging). s.items ≡ map item_meant c.expect-ledger.result.items)) c.expect-staging.ensures c.new.ensures.items
    ∙ ap (map item_meant) kept ∙ c.ledger.ensures.items in
    subst (λ (its : List stamps.LedgerItem). AreEntries its (map row_meant c.entries.result.now)) (sym items)
    (subst (λ (entries : List (Key × Entry)). AreEntries c.args.other.now.ledger entries) (sym c.entries.ensures.rows) c.entries.ensures.valid.entries)
