use Rattle.cif_laws.proofs.Common.{List, map, subst, LedgerItem}
use Rattle.docker_join.specs.Meaning.{floor_meant}
use Rattle.docker_state.specs.Meaning.{item_meant}
use Rattle.docker_state.specs.Staging.{HasKeptItems}
use Rattle.docker_state.proofs.NothingToStage.{covered}
use Rattle.docker_state.proofs.state.State.covers.Goals as goal

pub returns-then-has_kept_items : goal.returns-then-has_kept_items
returns-then-has_kept_items c = λ told. covered _ _ c.ledger.ensures.valid c.ledger-2.ensures.valid _ c.floor_with-floor.ensures
    (subst (λ (own : List LedgerItem). HasKeptItems own c.args.other.now.ledger (floor_meant c.floor_with-floor.result)) c.ledger.ensures.items
    (subst (λ (items : List LedgerItem). HasKeptItems (map item_meant c.ledger.result.now) items (floor_meant c.floor_with-floor.result))
    c.ledger-2.ensures.items (c.has_kept_items.ensures.0 c.if-has_kept_items.true))) (c.brings_none.ensures told)
