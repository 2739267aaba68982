-- The length of a valid state's text.
use Rattle.cif_laws.proofs.Common.{◌≡◌, ℕ, ◌+◌, ◌*◌, List, [], ◌∷◌, length, refl, sym, subst, arith, length-append, All, concat, flat_map, AllByRecursion, w32}
use Rattle.cif_laws.proofs.Common.{to_be_bytes, recursion_from_All, IsRecord, Key, Body, schedule_key, tiploc_key, association_key, schedule_body, LedgerItem}
use Rattle.cif_laws.proofs.Common.{State, IsBodyOf, IsGoodItem, IsValid, item_bytes}
use Rattle.docker_model.specs.state.StateText.{put_bytes}
use Rattle.state_laws.proofs.texts.StateReadBack.{item_width, stamp_width}
use Rattle.state_text.specs.Entries.{IsOfWidth}

lines_length : (lines : List (List ℕ)) → AllByRecursion IsRecord lines → length (concat lines) ≡ 80 * length lines
lines_length [] all = refl
lines_length (line ∷ lines) all = let rest = lines_length lines all.1 in let one = all.0.0 in let size = length-append line (concat lines) in omega arith

-- the text of a schedule's body with n lines has 4 + 80 * n bytes
pub schedule_length : (key : Key) (body : Body) (lines : List (List ℕ)) (n : ℕ) → body ≡ schedule_body lines → IsBodyOf key body → n ≡ length lines
    → 4 + 80 * n ≡ length (put_bytes body)
schedule_length (schedule_key k) body lines n is of count =
    let good = subst (IsBodyOf (schedule_key k)) is of in
    let size = lines_length lines (recursion_from_All IsRecord lines good.schedule.records) in
    let joined = length-append (to_be_bytes w32 (length lines)) (concat lines) in
    subst (λ o. 4 + 80 * n ≡ length (put_bytes o)) (sym is) (omega arith)
schedule_length (tiploc_key code) body lines n is of count = absurd (subst (IsBodyOf (tiploc_key code)) is of)
schedule_length (association_key k) body lines n is of count = absurd (subst (IsBodyOf (association_key k)) is of)

-- in a valid state, each entry's key is good, its op fits the key, and its stamp has 15 bytes
pub valid_widths : (state : State) → IsValid state → All IsOfWidth state.entries
valid_widths state valid = λ k d below.
    let good = valid.entries.0 k d below in
    (good.key, good.op, stamp_width state.ledger _ valid.ledger good.stamp)

pub items_length : (items : List LedgerItem) → AllByRecursion IsGoodItem items → length (flat_map item_bytes items) ≡ 19 * length items
items_length [] good = refl
items_length (item ∷ items) good =
    let rest = items_length items good.1 in
    let one = item_width item good.0 in
    let joined = length-append (item_bytes item) (flat_map item_bytes items) in
    omega arith
