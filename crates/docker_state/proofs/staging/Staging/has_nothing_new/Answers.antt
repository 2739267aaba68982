use Rattle.cif_laws.proofs.Common.{List, map, subst, ◌↔◌, IsTrue}
use Rattle.docker_state.specs.declared.item.LedgerItem.{LedgerItem}
use Rattle.docker_join.specs.Meaning.{floor_meant}
use Rattle.docker_state.specs.Meaning.{item_meant}
use Rattle.docker_state.specs.Staging.{Staging, HasKeptItems}
use Rattle.docker_state.proofs.StagingLemmas.{nothing_new_tells}
use Rattle.docker_state.proofs.staging.Staging.has_nothing_new.Goals as goal

pub returns-then-is_empty : goal.returns-then-is_empty
returns-then-is_empty c = nothing_new_tells _ _ _ c.is_empty.ensures c.if-is_empty.true _
    (subst (λ (s : Staging). IsTrue c.has_kept_items.result ↔ HasKeptItems (map item_meant c.args.ledger.now) s.items s.floor) c.self.view_is
    (subst (λ (items : List LedgerItem).
    IsTrue c.has_kept_items.result ↔ HasKeptItems (map item_meant c.args.ledger.now) (map item_meant items) (floor_meant c.self.inside.floor))
    c.as_slice.ensures.value c.has_kept_items.ensures))
