-- Lemmas on how a floor and a horizon affect entries. If an entry isn't below the floor, no greater
-- entry is below the floor. Lapsing preserves the key order of entries.
use Rattle.cif_laws.proofs.Common.{◌≡◌, ℕ, List, ◌∷◌, subst, inl, inr, ◌⊎◌, refl, sym, ◌∙◌, Some, None, rules, [], Option, AllByRecursion, Equal, on, IsBelow}
use Rattle.cif_laws.proofs.Common.{IsAtMost, FileStamp, stamp_cmp, IsKept, key_cmp, Op, deleted, lapsed, put_with, op_cmp, Entry, entry_cmp, lapse, lapse_entry}
use Rattle.cif_laws.proofs.Common.{lapse_keyed, lapse_entries, HasNotToLapse, AreAscending}
use Rattle.cif_laws.proofs.orders.Orders.{file_stamp_total, exact_stamp, then_equal, op_total, entry_total}
use Rattle.cif_laws.proofs.orders.AtMost.{at_most_trans, level, at_most_itself}
use Rattle.state_laws.proofs.states.PlainTable.{Keyed}
use Rattle.state_laws.proofs.states.Lapse.{below_or, put_lapses, entry_stays, then_at_most}

-- if the lower of two entries isn't below the floor, the greater entry isn't below the floor either
pub kept_up : (floor : Option FileStamp) (low high : Entry) → IsAtMost entry_cmp low high → IsKept floor low.stamp.file → IsKept floor high.stamp.file
kept_up None low high most kept = tt
kept_up (Some floor) low high most kept = search (rules, at_most_trans, file_stamp_total)

-- an op is never greater after lapsing than before
op_lapse_below : (horizon : ℕ) (op : Op) → IsAtMost op_cmp (lapse horizon op) op
op_lapse_below horizon deleted = at_most_itself op_total deleted
op_lapse_below horizon lapsed = at_most_itself op_total lapsed
op_lapse_below horizon (put_with body) = search (rules, op_total)

-- an entry is never greater after lapsing than before
pub lapse_below : (horizon : ℕ) (entry : Entry) → IsAtMost entry_cmp (lapse_entry horizon entry) entry
lapse_below horizon entry =
    then_at_most (stamp_cmp entry.stamp entry.stamp) (op_cmp entry.op entry.op) _ (λ told. op_lapse_below horizon entry.op) (at_most_itself entry_total entry)

-- an op that ties with `lapsed` is `lapsed`
tied_lapsed : (op : Op) → op_cmp op lapsed ≡ Equal → op ≡ lapsed
tied_lapsed = search rules

-- if two entries tie in the order of entries, and one of them has lapsed, they are equal
pub level_lapsed : (first second : Entry) → second.op ≡ lapsed → IsAtMost entry_cmp first second → IsAtMost entry_cmp second first → first ≡ second
level_lapsed first second is up down =
    let parts = then_equal (stamp_cmp first.stamp second.stamp) (op_cmp first.op second.op) (level entry_total first second up down) in
    let ops : first.op ≡ second.op = tied_lapsed first.op (subst (λ op. op_cmp first.op op ≡ Equal) is parts.1) ∙ sym is in
    λ i. record { stamp = exact_stamp first.stamp second.stamp parts.0 i; op = ops i }

-- lapsing an op gives `lapsed`, or the op doesn't have to lapse
pub lapses_or_not : (horizon : ℕ) (op : Op) → (lapse horizon op ≡ lapsed) ⊎ HasNotToLapse horizon op
lapses_or_not horizon deleted = inr tt
lapses_or_not horizon lapsed = inl refl
lapses_or_not horizon (put_with body) = elim (below_or horizon body) [ inl below ↦ inl (put_lapses horizon body below) | inr above ↦ inr above ]

-- ---- lapsing preserves the key order of entries

above_lapsed : (horizon : ℕ) (first : Keyed) (entries : List Keyed) → AllByRecursion (IsBelow (on (λ (entry : Keyed). entry.0) key_cmp) first) entries
    → AllByRecursion (IsBelow (on (λ (entry : Keyed). entry.0) key_cmp) (lapse_keyed horizon first)) (lapse_entries horizon entries)
above_lapsed horizon first [] all = tt
above_lapsed horizon first (entry ∷ entries) all = (all.0, above_lapsed horizon first entries all.1)

-- lapsing preserves the key order of entries
pub lapse_ascends : (horizon : ℕ) (entries : List Keyed) → AreAscending entries → AreAscending (lapse_entries horizon entries)
lapse_ascends horizon [] up = tt
lapse_ascends horizon (entry ∷ entries) up = (above_lapsed horizon entry entries up.0, lapse_ascends horizon entries up.1)

-- entries that don't have to lapse are unchanged by lapsing
pub entries_stay : (horizon : ℕ) (entries : List Keyed) → AllByRecursion (λ (entry : Keyed). HasNotToLapse horizon entry.1.op) entries
    → lapse_entries horizon entries ≡ entries
entries_stay horizon [] all = refl
entries_stay horizon (entry ∷ entries) all = λ i. (entry.0, entry_stays horizon entry.1 all.0 i) ∷ entries_stay horizon entries all.1 i
