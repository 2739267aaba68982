-- Sorted rows, and the last row for each key among them.
use Rattle.cif_laws.proofs.Common.{◌≡◌, List, [], ◌∷◌, inl, inr, ◌⊎◌, refl, ap, sym, ◌∙◌, true, false, cond, subst, Contains, arith, rules, AllByRecursion}
use Rattle.cif_laws.proofs.Common.{Ordering, Less, Equal, Greater, ordering_then, ordering_reverse, is_eq, entry_cmp, IsBelow, IsAtMost, recursion_from_All}
use Rattle.cif_laws.proofs.lists.Membership.{Contains-single}
use Rattle.cif_laws.proofs.orders.Orders.{key_total, entry_total}
use Rattle.cif_laws.proofs.lists.Membership.{Contains-cons, nil-Contains, below_by_recursion, all_members}
use Rattle.cif_laws.proofs.orders.AtMost.{at_most_itself}
use Rattle.cif_laws.proofs.lists.Later.{AllLater}
use Rattle.cif_change.specs.Meaning.{key_meant}
use Rattle.cif_change.specs.declared.key.Key.{Key}
use Rattle.docker_join.specs.declared.entry.Entry.{Entry}
use Rattle.docker_join.specs.Meaning.{entry_meant}
use Rattle.docker_join.specs.Rows.{row_cmp, AreAscending}
use Rattle.docker_state.specs.Rows.{last_rows}

-- compares two rows: first their keys, and then their entries
abbrev pub by_entry : Key × Entry → Key × Entry → Ordering
by_entry a b = ordering_then (row_cmp a b) (entry_cmp (entry_meant a.1) (entry_meant b.1))

-- Says that no row is above a later row.
abbrev pub AreSorted : List (Key × Entry) → Type 0
AreSorted rows = AllLater (IsAtMost by_entry) rows

abbrev LaterKey : Key × Entry → Key × Entry → Type 0
LaterKey a b = (row_cmp a b ≡ Less) ⊎ ((row_cmp a b ≡ Equal) × IsAtMost entry_cmp (entry_meant a.1) (entry_meant b.1))

-- of two sorted rows, the later row has the greater key, or both have the same key and the later row's entry isn't less than the earlier row's
pub later_key : (a b : Key × Entry) → IsAtMost by_entry a b → LaterKey a b
later_key = search rules

-- if all rows have a property, so does the last row for each key
pub lasts_all : (P : Key × Entry → Type 0) (rows : List (Key × Entry)) → AllByRecursion P rows → AllByRecursion P (last_rows rows)
lasts_all P [] all = tt
lasts_all P (row ∷ []) all = (all.0, tt)
lasts_all P (row ∷ next ∷ rows) all = grind (arith, (lasts_all P (next ∷ rows) all.1))

-- if a row of a sorted list has a lower key than the next row, it has a lower key than all rows after it
below_all : (row next : Key × Entry) (rows : List (Key × Entry)) → row_cmp row next ≡ Less → AllByRecursion (IsAtMost by_entry next) rows
    → AllByRecursion (IsBelow row_cmp row) rows
below_all row next [] below later = tt
below_all row next (other ∷ rows) below later = (
  elim (later_key next other later.0) [
    | inl less ↦ key_total.trans (key_meant row.0) (key_meant next.0) (key_meant other.0) below less
    | inr same ↦ search (rules, key_total, row.0, same.0)
  ],
  below_all row next rows below later.1,
)

-- if two neighbouring rows of a sorted list have different keys, the key of the first row is the lower one
front_below : (row next : Key × Entry) → ¬ (row_cmp next row ≡ Equal) → LaterKey row next → row_cmp row next ≡ Less
front_below = search (rules, key_total)

-- if rows are sorted, the rows in `last_rows rows` ascend
pub lasts_ascend : (rows : List (Key × Entry)) → AreSorted rows → AreAscending (last_rows rows)
lasts_ascend [] sorted = tt
lasts_ascend (row ∷ []) sorted = (tt, tt)
lasts_ascend (row ∷ next ∷ rows) sorted = by (row_cmp next row) refl (lasts_ascend (next ∷ rows) sorted.1)
  where
    in_front : ¬ (row_cmp next row ≡ Equal) → AreAscending (last_rows (next ∷ rows)) → AreAscending (row ∷ last_rows (next ∷ rows))
    in_front apart rest =
        let below = front_below row next apart (later_key row next sorted.0.0) in
        (lasts_all (IsBelow row_cmp row) (next ∷ rows) (below, below_all row next rows below sorted.1.0), rest)

    by : (o : Ordering) → row_cmp next row ≡ o → AreAscending (last_rows (next ∷ rows))
        → AreAscending (cond (is_eq o) (last_rows (next ∷ rows)) (row ∷ last_rows (next ∷ rows)))
    by Equal is rest = rest
    by Less is rest = in_front (λ tied. cc) rest
    by Greater is rest = in_front (λ tied. cc) rest

-- of two sorted rows with the same key, the later row's entry isn't less than the earlier row's
of_one_key : (a b : Key × Entry) → IsAtMost by_entry a b → row_cmp a b ≡ Equal → IsAtMost entry_cmp (entry_meant a.1) (entry_meant b.1)
of_one_key = search (rules, later_key)

-- each row of `last_rows rows` is one of the rows
pub lasts_among : (rows : List (Key × Entry)) (z : Key × Entry) → Contains (last_rows rows) z → Contains rows z
lasts_among rows z last = below_by_recursion _ _ _ (lasts_all _ _ (recursion_from_All (Contains rows) rows (all_members _ _ (λ x among. among)))) last

-- of all sorted rows with the same key, the last row has the greatest entry
pub lasts_top : (rows : List (Key × Entry)) → AreSorted rows → (z : Key × Entry) → Contains (last_rows rows) z → (w : Key × Entry) → Contains rows w
    → row_cmp w z ≡ Equal
    → IsAtMost entry_cmp (entry_meant w.1) (entry_meant z.1)
lasts_top [] sorted z last w among tied = absurd (nil-Contains z last)
lasts_top (row ∷ []) sorted z last w among tied =
    subst (λ (v : Key × Entry). IsAtMost entry_cmp (entry_meant w.1) (entry_meant v.1)) (sym (Contains-single row w among) ∙ Contains-single row z last)
    (at_most_itself entry_total (entry_meant w.1))
lasts_top (row ∷ next ∷ rows) sorted z last w among tied =
    (elim (is_eq (row_cmp next row)) as (λ b. is_eq (row_cmp next row) ≡ b → Contains
    (cond b (last_rows (next ∷ rows)) (row ∷ last_rows (next ∷ rows))) z → IsAtMost entry_cmp (entry_meant w.1) (entry_meant z.1)) [
      | true ↦ λ h inside. in_tail (λ inside behind. lasts_top (next ∷ rows) sorted.1 z inside w behind tied) inside (Contains-cons row (next ∷ rows) w among)
      | false ↦ λ h inside. elim (Contains-cons row (last_rows (next ∷ rows)) z inside) [
        | inl same ↦ here h same (Contains-cons row (next ∷ rows) w among)
        | inr inner ↦ in_tail (λ inside behind. lasts_top (next ∷ rows) sorted.1 z inside w behind tied) inner (Contains-cons row (next ∷ rows) w among)
      ]
    ]) refl last
  where
    in_tail : (Contains (last_rows (next ∷ rows)) z → Contains (next ∷ rows) w → IsAtMost entry_cmp (entry_meant w.1) (entry_meant z.1))
        → Contains (last_rows (next ∷ rows)) z → (row ≡ w) ⊎ Contains (next ∷ rows) w → IsAtMost entry_cmp (entry_meant w.1) (entry_meant z.1)
    in_tail rest inside (inl same) =
        subst (λ (v : Key × Entry). IsAtMost entry_cmp (entry_meant v.1) (entry_meant z.1)) same
        (of_one_key row z (below_by_recursion (IsAtMost by_entry row) (next ∷ rows) z sorted.0 (lasts_among (next ∷ rows) z inside))
        (ap (λ (v : Key × Entry). row_cmp v z) same ∙ tied))
    in_tail rest inside (inr behind) = rest inside behind

    here : is_eq (row_cmp next row) ≡ false → row ≡ z → (row ≡ w) ⊎ Contains (next ∷ rows) w → IsAtMost entry_cmp (entry_meant w.1) (entry_meant z.1)
    here apart same (inl is_w) =
        subst (λ (v : Key × Entry). IsAtMost entry_cmp (entry_meant w.1) (entry_meant v.1)) (sym is_w ∙ same) (at_most_itself entry_total (entry_meant w.1))
    here apart same (inr behind) =
        let below = front_below row next (λ level. let bad : true ≡ false = sym (ap is_eq level) ∙ apart in cc) (later_key row next sorted.0.0) in
        let under : row_cmp row w ≡ Less = below_by_recursion (IsBelow row_cmp row) (next ∷ rows) w (below, below_all row next rows below sorted.1.0) behind in
        let level : row_cmp w row ≡ Equal = ap (row_cmp w) same ∙ tied in
        let turned = key_total.antisymm (key_meant row.0) (key_meant w.0) in
        absurd (let bad : Less ≡ Equal = sym under ∙ turned ∙ ap ordering_reverse level in cc)
