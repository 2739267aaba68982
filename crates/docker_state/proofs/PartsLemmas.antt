-- Lemmas on adding a good entry to a state that is built step by step.
use Rattle.cif_laws.proofs.Common.{◌≡◌, List, [], ◌∷◌, ◌++◌, map, ap, sym, ◌∙◌, subst, map-append, State, IsValid, IsOpOf, IsStampHere}
use Rattle.docker_model.specs.file.Change as model
use Rattle.docker_model.specs.state.Op as ops
use Rattle.state_laws.proofs.joins.RaisedHorizon.{none_has_to}
use Rattle.state_laws.proofs.texts.StateGrown.{valid_more}
use Rattle.cif_change.specs.Meaning.{key_meant}
use Rattle.cif_change.specs.declared.key.Key.{Key}
use Rattle.docker_join.specs.declared.entry.Entry.{Entry}
use Rattle.docker_join.specs.Meaning.{entry_meant, row_meant}
use Rattle.docker_state.specs.declared.item.LedgerItem.{LedgerItem}
use Rattle.docker_state.specs.Meaning.{item_meant, state_meant}

-- if a good entry, with a key above all other keys, is appended to a valid state, the state is still valid
pub valid_with_entry : (ledger : List LedgerItem) (rows : List (Key × Entry)) (state : State) → state_meant 0 ledger rows ≡ state
    → IsValid (state_meant 0 ledger rows)
    → (key : Key) (entry : Entry) → IsStampHere state (key_meant key) (entry_meant entry).stamp → IsOpOf (key_meant key) (entry_meant entry).op
    → (after : List (Key × Entry)) → after ≡ rows ++ (key, entry) ∷ [] → IsValid (state_meant 0 ledger after)
valid_with_entry ledger rows state view valid key entry here of after pushed =
    subst (λ (all : List (model.Key × ops.Entry)). IsValid (record { horizon = 0; ledger = map item_meant ledger; entries = all }))
    (sym (ap (map row_meant) pushed ∙ map-append row_meant rows ((key, entry) ∷ []))) (valid_more _ _ _ _ valid
    (subst (λ (s : State). IsStampHere s (key_meant key) (entry_meant entry).stamp) (sym view) here) of (none_has_to _))
