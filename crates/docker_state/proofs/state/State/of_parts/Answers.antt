-- The item made from the header is the ledger item of the parts, so the state that the item and the
-- changes make is the state that the parts make.
use Rattle.cif_laws.proofs.Common.{◌∷◌, [], map, subst, sym, LedgerItem}
use Rattle.cif_change.specs.Meaning.{change_meant}
use Rattle.docker_state.specs.MadeState.{IsMadeState, MakeValid}
use Rattle.docker_state.proofs.state.State.of_parts.Goals as goal

pub of_changes-requires-clause-valid : goal.of_changes-requires-clause-valid
of_changes-requires-clause-valid c =
    subst (λ (item : LedgerItem). MakeValid item (map change_meant c.args.parts.changes.items))
    (sym (c.item_of-item.ensures (c.args.parts.header ∷ []) c.view.ensures)) c.requires.valid

pub returns-in-Ok : goal.returns-in-Ok
returns-in-Ok c =
    subst (λ (item : LedgerItem). IsMadeState item (map change_meant c.args.parts.changes.items) c.in-Ok.state)
    (c.item_of-item.ensures (c.args.parts.header ∷ []) c.view.ensures) c.in-Ok.ensures.ok
