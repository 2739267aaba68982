-- Lemmas on converting the fields of a state from the code's types to the definitions' types.
use Rattle.cif_laws.proofs.Common.{◌≡◌, ℕ, List, [], ◌∷◌, map, refl, ap, sym, ◌∙◌, subst, Some, None, arith, Option, find, ◌==◌, option_map, FileStamp}
use Rattle.cif_laws.proofs.Common.{LedgerItem, IsFloor, IsLedger, entry_at}
use Rattle.docker_model.specs.file.Change as model
use Rattle.state_laws.proofs.joins.JoinValid.{floor_is_first_full}
use Rattle.state_laws.proofs.texts.StateGrown.{valid_without}
use Rattle.cif_change.specs.declared.key.Key.{Key}
use Rattle.docker_join.specs.declared.entry.Entry.{Entry}
use Rattle.docker_join.specs.Meaning.{entry_meant}
use Rattle.docker_join.specs.Rows.{value_at}
use Rattle.docker_state.specs.declared.item.LedgerItem as item
use Rattle.docker_state.specs.Meaning.{item_meant, state_meant}

-- the value of a key in the rows is the state's entry for this key
pub entry_of_rows : (horizon : ℕ) (ledger : List item.LedgerItem) (rows : List (Key × Entry)) (key : model.Key)
    → option_map entry_meant (value_at rows key) ≡ entry_at (state_meant horizon ledger rows) key
entry_of_rows horizon ledger [] key = refl
entry_of_rows horizon ledger (row ∷ rows) key = grind (arith, (entry_of_rows horizon ledger rows key))

-- searching for the first full extract commutes with converting the items to the definitions' type
pub find_meant : (items : List item.LedgerItem)
    → find (λ (i : LedgerItem). i.indicator == 70) (map item_meant items) ≡ option_map item_meant
    (find (λ (i : item.LedgerItem). (item_meant i).indicator == 70) items)
find_meant [] = refl
find_meant (head ∷ items) = grind (arith, (find_meant items))

-- the floor of a ledger is the stamp of its first full extract
pub floor_found : (items : List item.LedgerItem) → IsLedger (map item_meant items)
    → (found : Option item.LedgerItem) → found ≡ find (λ (i : item.LedgerItem). (item_meant i).indicator == 70) items
    → (floor : Option FileStamp) → floor ≡ option_map (λ (i : item.LedgerItem). (item_meant i).stamp) found → IsFloor (map item_meant items) floor
floor_found items good found is floor floor_is = subst (IsFloor (map item_meant items)) (ap (option_map (λ (i : LedgerItem). i.stamp)) (find_meant items)
    ∙ composed (find (λ (i : item.LedgerItem). (item_meant i).indicator == 70) items)
    ∙ ap (option_map (λ (i : item.LedgerItem). (item_meant i).stamp)) (sym is) ∙ sym floor_is) (floor_is_first_full _ (valid_without 0 _ (omega arith) good))
  where
    composed : (o : Option item.LedgerItem)
        → option_map (λ (i : LedgerItem). i.stamp) (option_map item_meant o) ≡ option_map (λ (i : item.LedgerItem). (item_meant i).stamp) o
    composed None = refl
    composed (Some i) = refl
