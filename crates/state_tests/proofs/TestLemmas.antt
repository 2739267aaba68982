-- Lemmas on adding the parts of a state with one ledger item and one entry: first the item, and then the entry.
use Rattle.std.proofs.Common.{◌≡◌, List, [], ◌∷◌, ◌++◌, map, length, get_or, ap, sym, ◌∙◌, subst, arith}
use Rattle.docker_model.specs.state.Stamp as stamps
use Rattle.docker_model.specs.state.State.{State, IsLedger, IsValid, IsGoodEntry}
use Rattle.docker_model.specs.state.StatePart.{IsStampHere}
use Rattle.cif_change.specs.Meaning.{key_meant}
use Rattle.cif_change.specs.declared.key.Key.{Key}
use Rattle.docker_join.specs.declared.entry.Entry.{Entry}
use Rattle.docker_join.specs.Meaning.{entry_meant, row_meant}
use Rattle.docker_state.specs.declared.item.LedgerItem.{LedgerItem}
use Rattle.docker_state.specs.Meaning.{item_meant}

-- a list of length 1 consists of its first element
only_element : {A : Type 0} (xs : List A) (x d : A) → length xs ≡ 1 → x ≡ get_or xs 0 d → xs ≡ x ∷ []
only_element [] x d one is = absurd (let bad : 0 ≡ 1 = one in omega arith)
only_element (y ∷ []) x d one is = ap (λ v. v ∷ []) (sym is)
only_element (y ∷ z ∷ xs) x d one is = absurd (omega arith)

-- the only item of a valid state can be added as the first item
pub one_item : (items : List LedgerItem) (item other : LedgerItem) → length items ≡ 1 → item ≡ get_or items 0 other
    → (state : State) → map item_meant items ≡ state.ledger → IsValid state → (before : List stamps.LedgerItem) → before ≡ []
    → IsLedger (before ++ item_meant item ∷ [])
one_item items item other one is state items_are valid before none =
    subst IsLedger
    (sym items_are ∙ ap (map item_meant) (only_element items item other one is) ∙ ap (λ (xs : List stamps.LedgerItem). xs ++ item_meant item ∷ []) (sym none))
    valid.ledger

-- the only entry of a valid state is also a good entry for a ledger that has just the state's only item
good_entry : (items : List LedgerItem) (item other : LedgerItem) → length items ≡ 1 → item ≡ get_or items 0 other
    → (rows : List (Key × Entry)) (row next : Key × Entry) → length rows ≡ 1 → row ≡ get_or rows 0 next
    → (state : State) → map item_meant items ≡ state.ledger → map row_meant rows ≡ state.entries → IsValid state
    → IsGoodEntry (item_meant item ∷ []) (row_meant row)
good_entry items item other one is rows row next single is_row state items_are rows_are valid =
    let ledger : state.ledger ≡ item_meant item ∷ [] = sym items_are ∙ ap (map item_meant) (only_element items item other one is) in
    let entries : state.entries ≡ row_meant row ∷ [] = sym rows_are ∙ ap (map row_meant) (only_element rows row next single is_row) in
    let whole : state ≡ record { horizon = state.horizon; ledger = item_meant item ∷ []; entries = row_meant row ∷ [] } =
    (λ i. record { horizon = state.horizon; ledger = ledger i; entries = entries i }) in
    let here : IsValid (record { horizon = state.horizon; ledger = item_meant item ∷ []; entries = row_meant row ∷ [] }) = subst IsValid whole valid in
    here.entries.0 0 (row_meant row) (omega arith)

-- the only entry of a valid state can be added after the only item
pub one_entry : (items : List LedgerItem) (item other : LedgerItem) → length items ≡ 1 → item ≡ get_or items 0 other
    → (rows : List (Key × Entry)) (row next : Key × Entry) → length rows ≡ 1 → row ≡ get_or rows 0 next
    → (state : State) → map item_meant items ≡ state.ledger → map row_meant rows ≡ state.entries → IsValid state
    → (before : List stamps.LedgerItem) → before ≡ [] → (given : State) → given ≡ record { horizon = 0; ledger = before ++ item_meant item ∷ []; entries = [] }
    → IsStampHere given (key_meant row.0) (entry_meant row.1).stamp
one_entry items item other one is rows row next single is_row state items_are rows_are valid before none given given_is =
    let good = good_entry items item other one is rows row next single is_row state items_are rows_are valid in
    subst (λ (s : State). IsStampHere s (key_meant row.0) (entry_meant row.1).stamp)
    (ap (λ (xs : List stamps.LedgerItem). record { horizon = 0; ledger = xs ++ item_meant item ∷ []; entries = [] }) (sym none) ∙ sym given_is)
    ((good.key, λ k d below. absurd (omega arith)), good.stamp)
