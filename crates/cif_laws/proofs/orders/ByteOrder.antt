-- Two well-formed keys compare like their bytes, and so do two well-formed ledger items.
use Rattle.cif_laws.proofs.Common.{◌≡◌, ℕ, ◌<◌, ◌^◌, List, [], ◌∷◌, ◌++◌, length, sym, ◌∙◌, arith, append_assoc, length-append, common_steps, rules, w16}
use Rattle.cif_laws.proofs.Common.{to_be_bytes, Ordering, ordering_then, nat_cmp, Key, schedule_key, ScheduleKey, bytes_cmp, LedgerItem, ledger_item_cmp}
use Rattle.cif_laws.proofs.Common.{key_cmp, key_tag, schedule_key_cmp, IsGoodItem, IsGoodKey, IsGoodScheduleKey, item_bytes, key_bytes}
use Rattle.cif_laws.proofs.orders.Orders.{then_equal_right}

-- `ordering_then` is associative
then_assoc : (a b c : Ordering) → ordering_then (ordering_then a b) c ≡ ordering_then a (ordering_then b c)
then_assoc = search rules

-- two lists whose prefixes have the same length compare by these prefixes. If the prefixes are
-- equal, the lists compare by the bytes after the prefixes
pub fronts_first : (xs ys more others : List ℕ) (behind : Ordering) → length xs ≡ length ys → bytes_cmp more others ≡ behind
    → bytes_cmp (xs ++ more) (ys ++ others) ≡ ordering_then (bytes_cmp xs ys) behind
fronts_first [] [] more others behind same is = is
fronts_first [] (y ∷ ys) more others behind same is = absurd (omega arith)
fronts_first (x ∷ xs) [] more others behind same is = absurd (omega arith)
fronts_first (x ∷ xs) (y ∷ ys) more others behind same is = grind (arith, then_assoc, (fronts_first xs ys more others behind (omega arith) is))

-- two numbers below 2^16 compare like their two bytes, if the high byte is first
pub two_bytes_cmp : (m n : ℕ) → m < 2 ^ 16 → n < 2 ^ 16 → bytes_cmp (to_be_bytes w16 m) (to_be_bytes w16 n) ≡ nat_cmp m n
two_bytes_cmp = search (rules, then_equal_right)

-- like `two_bytes_cmp`, with more bytes after each number
day_first : (m n : ℕ) (more others : List ℕ) (behind : Ordering) → m < 2 ^ 16 → n < 2 ^ 16 → bytes_cmp more others ≡ behind
    → bytes_cmp (to_be_bytes w16 m ++ more) (to_be_bytes w16 n ++ others) ≡ ordering_then (nat_cmp m n) behind
day_first = search (rules, fronts_first, two_bytes_cmp)

-- two well-formed ledger items compare like their 19 bytes
pub item_order : (first second : LedgerItem) → IsGoodItem first → IsGoodItem second → ledger_item_cmp first second ≡ bytes_cmp (item_bytes first)
    (item_bytes second)
item_order = grind (common_steps, arith, two_bytes_cmp, fronts_first, length-append)

of_five : (a b c d e : List ℕ) → a ++ b ++ c ++ d ++ e ≡ a ++ (b ++ (c ++ (d ++ e)))
of_five a b c d e = simp append_assoc

schedule_order : (a b : ScheduleKey) → IsGoodScheduleKey a → IsGoodScheduleKey b → schedule_key_cmp a b ≡ bytes_cmp (key_bytes (schedule_key a))
    (key_bytes (schedule_key b))
schedule_order a b good other =
    let uid_a = good.uid.0 in
    let uid_b = other.uid.0 in
    let day_a = good.runs_from in
    let day_b = other.runs_from in
    let ends = then_equal_right (nat_cmp a.indicator b.indicator) in
    let days = day_first a.runs_from b.runs_from (a.indicator ∷ []) (b.indicator ∷ []) _ (omega arith) (omega arith) ends in
    let whole = fronts_first a.uid b.uid (to_be_bytes w16 a.runs_from ++ a.indicator ∷ []) (to_be_bytes w16 b.runs_from ++ b.indicator ∷ []) _
    (omega arith) days in
    let left = append_assoc a.uid (to_be_bytes w16 a.runs_from) (a.indicator ∷ []) in
    let right = append_assoc b.uid (to_be_bytes w16 b.runs_from) (b.indicator ∷ []) in
    sym ((λ i. bytes_cmp (left i) (right i)) ∙ whole)

-- two well-formed keys compare like their bytes, if the tag of each key is put before its bytes
pub key_order : (first second : Key) → IsGoodKey first → IsGoodKey second
    → key_cmp first second ≡ bytes_cmp (key_tag first ∷ key_bytes first) (key_tag second ∷ key_bytes second)
key_order = search (rules, schedule_order, then_equal_right, fronts_first, day_first, of_five)
