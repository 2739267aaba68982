-- A state has one ledger item and one entry. Another state is built from this item and a copy of
-- this entry.
use Rattle.std.proofs.Common.{◌≡◌, List, [], ◌∷◌, ◌++◌, map, length, get_or, ap, sym, ◌∙◌, subst, arith}
use Rattle.docker_model.specs.state.Stamp as stamps
use Rattle.docker_model.specs.state.State.{State, IsLedger, IsValid, IsGoodEntry}
use Rattle.docker_model.specs.state.StatePart.{IsStampHere}
use Rattle.cif_change.specs.Meaning.{key_meant}
use Rattle.cif_change.specs.declared.key.Key.{Key}
use Rattle.docker_join.specs.declared.entry.Entry.{Entry}
use Rattle.docker_join.specs.Meaning.{entry_meant, row_meant}
use Rattle.docker_state.specs.declared.item.LedgerItem.{LedgerItem}
use Rattle.docker_state.specs.Meaning.{item_meant}

-- a list of length 1 has only its first element
only_element : {A : Type 0} (xs : List A) (x d : A) → length xs ≡ 1 → x ≡ get_or xs 0 d → xs ≡ x ∷ []
only_element [] x d one is = absurd (let bad : 0 ≡ 1 = one in omega arith)
only_element (y ∷ []) x d one is = ap (λ v. v ∷ []) (sym is)
only_element (y ∷ z ∷ xs) x d one is = absurd (omega arith)

-- if a valid state has only one ledger item, a ledger that has only this item is valid
pub good_item : (items : List LedgerItem) (item other : LedgerItem) → length items ≡ 1 → item ≡ get_or items 0 other
    → (state : State) → map item_meant items ≡ state.ledger → IsValid state → IsLedger (item_meant item ∷ [])
good_item items item other one is state items_are valid =
    subst IsLedger (sym items_are ∙ ap (map item_meant) (only_element items item other one is)) valid.ledger

-- if a valid state has only one ledger item and only one entry, the entry may be in a state whose ledger has only this item
good_row : (items : List LedgerItem) (item other : LedgerItem) → length items ≡ 1 → item ≡ get_or items 0 other
    → (rows : List (Key × Entry)) (row next : Key × Entry) → length rows ≡ 1 → row ≡ get_or rows 0 next
    → (state : State) → map item_meant items ≡ state.ledger → map row_meant rows ≡ state.entries → IsValid state
    → IsGoodEntry (item_meant item ∷ []) (row_meant row)
good_row items item other one is rows row next single is_row state items_are rows_are valid =
    let ledger : state.ledger ≡ item_meant item ∷ [] = sym items_are ∙ ap (map item_meant) (only_element items item other one is) in
    let entries : state.entries ≡ row_meant row ∷ [] = sym rows_are ∙ ap (map row_meant) (only_element rows row next single is_row) in
    let whole : state ≡ record { horizon = state.horizon; ledger = item_meant item ∷ []; entries = row_meant row ∷ [] } =
    (λ i. record { horizon = state.horizon; ledger = ledger i; entries = entries i }) in
    let here : IsValid (record { horizon = state.horizon; ledger = item_meant item ∷ []; entries = row_meant row ∷ [] }) = subst IsValid whole valid in
    here.entries.0 0 (row_meant row) (omega arith)

-- if a valid state has only one ledger item and only one entry, a copy of the entry may be in a state whose ledger has only this item
pub good_copy : (items : List LedgerItem) (item other : LedgerItem) → length items ≡ 1 → item ≡ get_or items 0 other
    → (rows : List (Key × Entry)) (row next : Key × Entry) → length rows ≡ 1 → row ≡ get_or rows 0 next
    → (state : State) → map item_meant items ≡ state.ledger → map row_meant rows ≡ state.entries → IsValid state
    → (copy : Key × Entry) → row_meant copy ≡ row_meant row → IsGoodEntry (item_meant item ∷ []) (row_meant copy)
good_copy items item other one is rows row next single is_row state items_are rows_are valid copy same =
    subst (IsGoodEntry (item_meant item ∷ [])) (sym same)
    (good_row items item other one is rows row next single is_row state items_are rows_are valid)

-- if an item is pushed to an empty vector, the vector then has only this item
pub pushed_item : (item : LedgerItem) (before after : List LedgerItem) → before ≡ [] → after ≡ before ++ item ∷ []
    → map item_meant after ≡ item_meant item ∷ []
pushed_item item before after none pushed = ap (map item_meant) (pushed ∙ ap (λ (xs : List LedgerItem). xs ++ item ∷ []) none)

-- let a valid state have only one ledger item and only one entry. Then a copy of the entry may be the first entry of a state whose ledger has only this item
pub here_copy : (items : List LedgerItem) (item other : LedgerItem) → length items ≡ 1 → item ≡ get_or items 0 other
    → (rows : List (Key × Entry)) (row next : Key × Entry) → length rows ≡ 1 → row ≡ get_or rows 0 next
    → (state : State) → map item_meant items ≡ state.ledger → map row_meant rows ≡ state.entries → IsValid state
    → (copy : Key × Entry) → row_meant copy ≡ row_meant row → (before : List stamps.LedgerItem) → before ≡ [] → (given : State)
    → given ≡ record { horizon = 0; ledger = before ++ item_meant item ∷ []; entries = [] }
    → IsStampHere given (key_meant copy.0) (entry_meant copy.1).stamp
here_copy items item other one is rows row next single is_row state items_are rows_are valid copy same before none given given_is =
    let good = good_copy items item other one is rows row next single is_row state items_are rows_are valid copy same in
    subst (λ (s : State). IsStampHere s (key_meant copy.0) (entry_meant copy.1).stamp)
    (ap (λ (xs : List stamps.LedgerItem). record { horizon = 0; ledger = xs ++ item_meant item ∷ []; entries = [] }) (sym none) ∙ sym given_is)
    ((good.key, λ k d below. absurd (omega arith)), good.stamp)
