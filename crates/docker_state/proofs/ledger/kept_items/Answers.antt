use Rattle.cif_laws.proofs.Common.{rules, option_map, ledger_item_cmp, filter_same}
use Rattle.docker_model.specs.state.Stamp as model
use Rattle.docker_join.specs.Meaning.{file_stamp_meant}
use Rattle.docker_state.specs.Meaning.{item_meant}
use Rattle.docker_state.specs.declared.item.LedgerItem.{LedgerItem}
use Rattle.docker_state.proofs.FloorTest.{keeps, says_kept, kept_ascends, kept_members}
use Rattle.docker_state.proofs.ledger.kept_items.Goals as goal

pub returns-clause-ascending : goal.returns-clause-ascending
returns-clause-ascending c =
    kept_ascends item_meant ledger_item_cmp (option_map file_stamp_meant c.args.floor.now)
    (λ (item : model.LedgerItem). item.stamp) c.args.items.items c.retain.new.self.items
    (filter_same _ (λ (item : LedgerItem). keeps (option_map file_stamp_meant c.args.floor.now) (item_meant item).stamp) _
    (λ x b q h. let k = h.called in let shows = h.shows in
    (says_kept (option_map file_stamp_meant c.args.floor.now) (item_meant x).stamp b (rw (← shows) (search rules)), search rules))
    c.args.items.items c.retain.new.self.items c.retain.ensures.filtered)
    c.requires

pub returns-clause-members : goal.returns-clause-members
returns-clause-members c = kept_members _ ledger_item_cmp _ _ _ _ (filter_same _ _ _
    (λ x b q h. let k = h.called in let shows = h.shows in
    (says_kept _ _ _ (rw (← shows) (search rules)), search rules)) _ _ c.retain.ensures.filtered)
