use Rattle.cif_laws.proofs.Common.{List, ◌++◌, map, max, ap, subst, sym, ◌∙◌, IsFloor, State, IsJoin, lapse_entries}
use Rattle.state_laws.proofs.joins.JoinValid.{join_is_valid}
use Rattle.docker_join.proofs.MeantOrder.{meant_ascending}
use Rattle.docker_join.specs.Meaning.{row_meant, floor_meant}
use Rattle.docker_state.specs.declared.item.LedgerItem.{LedgerItem}
use Rattle.docker_state.specs.Meaning.{item_meant, state_meant}
use Rattle.docker_state.proofs.StateJoin.{HasUnion, states_joined}
use Rattle.docker_state.proofs.state.State.join_opened.Goals as goal

pub lapsed_under-left-requires-clause-ascending : goal.lapsed_under-left-requires-clause-ascending
lapsed_under-left-requires-clause-ascending c = meant_ascending _ _ _ c.requires.valid.entries.1

pub of_rows-requires-clause-valid : goal.of_rows-requires-clause-valid
of_rows-requires-clause-valid c = join_is_valid _ _ _ c.requires.valid c.other.invariant.valid (states_joined _ _ _ _
    _ _ c.requires.valid c.other.invariant.valid _
    (subst (λ (s : State). IsFloor (map item_meant c.args.opened.ledger.items ++ s.ledger) (floor_meant c.args.floor.now))
    (sym c.other.view_is) c.requires.floor) _ _
    (subst (λ (xs : List LedgerItem). HasUnion c.union_of-items.result.items c.args.opened.ledger.items xs) c.as_slice-2.ensures.value
    (subst (λ (xs : List LedgerItem). HasUnion c.union_of-items.result.items xs c.as_slice-2.result.now) c.as_slice.ensures.value
    c.union_of-items.ensures.members)) c.kept_items-ledger.ensures.ascending c.kept_items-ledger.ensures.members _ c.max.ensures _ _
    c.lapsed_under-left.ensures.lapsed (c.lapsed_under-right.ensures.lapsed
    ∙ ap (λ rows. lapse_entries (max c.other.inside.horizon c.args.opened.horizon) (map row_meant rows)) c.into_rows.ensures.rows)
    _ _ c.join_rows-joined.ensures c.kept_rows-rows.ensures.ascending c.kept_rows-rows.ensures.members)

pub returns : goal.returns
returns c =
    subst (λ (s : State). IsJoin (state_meant c.args.opened.horizon c.args.opened.ledger.items c.args.opened.rows.items) s c.of_rows.result) c.other.view_is
    (subst (IsJoin (state_meant c.args.opened.horizon c.args.opened.ledger.items c.args.opened.rows.items)
    (state_meant c.other.inside.horizon c.other.inside.ledger.items c.other.inside.entries)) (sym c.of_rows.ensures) (states_joined _ _ _ _
    _ _ c.requires.valid c.other.invariant.valid _
    (subst (λ (s : State). IsFloor (map item_meant c.args.opened.ledger.items ++ s.ledger) (floor_meant c.args.floor.now))
    (sym c.other.view_is) c.requires.floor) _ _
    (subst (λ (xs : List LedgerItem). HasUnion c.union_of-items.result.items c.args.opened.ledger.items xs) c.as_slice-2.ensures.value
    (subst (λ (xs : List LedgerItem). HasUnion c.union_of-items.result.items xs c.as_slice-2.result.now) c.as_slice.ensures.value
    c.union_of-items.ensures.members)) c.kept_items-ledger.ensures.ascending c.kept_items-ledger.ensures.members _ c.max.ensures _ _
    c.lapsed_under-left.ensures.lapsed (c.lapsed_under-right.ensures.lapsed
    ∙ ap (λ rows. lapse_entries (max c.other.inside.horizon c.args.opened.horizon) (map row_meant rows)) c.into_rows.ensures.rows)
    _ _ c.join_rows-joined.ensures c.kept_rows-rows.ensures.ascending c.kept_rows-rows.ensures.members))
