-- Lemmas on taking the entries of a state one by one, after its ledger items.
use Rattle.cif_laws.proofs.Common.{◌≡◌, ℕ, ◌-◌, List, [], ◌∷◌, ◌++◌, length, map, refl, ap, sym, ◌∙◌, subst, arith, length-append, Some, rules, Option}
use Rattle.cif_laws.proofs.Common.{slice_get, Entry, HasNotToLapse, LedgerItem, State, IsValid, IsOpOf, AreEntries, IsStampHere}
use Rattle.std.proofs.lemmas.List.{get_or_push}
use Rattle.std.proofs.lemmas.Option.{slice_get_read}
use Rattle.docker_model.specs.file.Change as model
use Rattle.state_laws.proofs.joins.RaisedHorizon.{none_has_to}
use Rattle.state_laws.proofs.texts.StateGrown.{valid_more}
use Rattle.docker_laws.proofs.dockers.ExcerptState.{entry_behind}
use Rattle.cif_change.specs.declared.key.Key.{Key}
use Rattle.cif_change.specs.Meaning.{key_meant}
use Rattle.docker_join.specs.Meaning.{entry_meant, row_meant}
use Rattle.docker_join.specs.declared.entry.Entry.{Entry as Row}
use Rattle.docker_state.specs.Parts.{last_key}
use Rattle.docker_excerpt.specs.Values.{with_entries}
use Rattle.docker_excerpt.specs.Ledger.{IsLedgerOf}

-- if the parts that were taken form a valid state, and one more entry fits, these parts form a
-- valid state with this entry too
pub valid_with : (parts : State) (last : Option Key) (count : ℕ) (entries : List (model.Key × Entry)) (told : State) → with_entries parts entries ≡ told
    → IsLedgerOf parts last count entries → (key : model.Key) (entry : Entry) → IsStampHere told key entry.stamp → IsOpOf key entry.op
    → (after : List (model.Key × Entry)) → after ≡ told.entries ++ (key, entry) ∷ [] → IsValid (with_entries told after)
valid_with parts last count entries told view is key entry here of after pushed =
    subst (λ (state : State). IsStampHere state key entry.stamp → after ≡ state.entries ++ (key, entry) ∷ [] → IsValid (with_entries state after)) view
    (λ stamp_here more. subst (λ (all : List (model.Key × Entry)). IsValid (with_entries parts all)) (sym more) (valid_more _ _ _ _ is.valid stamp_here of
    (subst (λ (horizon : ℕ). HasNotToLapse horizon entry.op) (sym is.plain) (none_has_to _)))) here pushed

last_of : {A : Type 0} (xs : List A) (x : A) → slice_get (xs ++ x ∷ []) (length (xs ++ x ∷ []) - 1) ≡ Some x
last_of xs x =
    let size = length-append xs (x ∷ []) in
    slice_get_read (xs ++ x ∷ []) _ _ x refl (omega arith) (sym (get_or_push xs x x (length (xs ++ x ∷ []) - 1) (omega arith)))

-- after one more entry is appended, the last key is the key of this entry
pub last_with : (entries after : List (model.Key × Entry)) (key : model.Key) (entry : Entry) → after ≡ entries ++ (key, entry) ∷ [] → last_key after ≡ Some key
last_with = search (rules, last_of)

-- if rows are added to parts one by one, the next row fits after the entries that have been added
pub row_behind : (parts : State) (ledger : List LedgerItem) (rows rest after : List (Key × Row)) (key : Key) (row : Row)
    → AreEntries ledger (map row_meant rows)
    → parts.ledger ≡ ledger → parts.entries ++ map row_meant rest ≡ map row_meant rows → rest ≡ (key, row) ∷ after
    → IsStampHere parts (key_meant key) (entry_meant row).stamp × IsOpOf (key_meant key) (entry_meant row).op
row_behind parts ledger rows rest after key row are same whole step = entry_behind parts _ (entry_meant row) _
    (subst (λ (all : List (model.Key × Entry)). AreEntries parts.ledger all)
    (sym whole ∙ ap (λ (more : List (Key × Row)). parts.entries ++ map row_meant more) step)
    (subst (λ (items : List LedgerItem). AreEntries items (map row_meant rows)) (sym same) are))
