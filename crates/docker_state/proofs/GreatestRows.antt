-- If rows are sorted by key and then by entry, the last row for each key has the greatest entry for the key.
use Rattle.cif_laws.proofs.Common.{◌≡◌, List, [], ◌∷◌, map, refl, ap, sym, ◌∙◌, subst, inl, inr, ◌⊎◌, Contains, Bool, true, false, cond, rules, Equal, is_eq}
use Rattle.cif_laws.proofs.Common.{is_lt, IsTotalOrder, then_total, on_total, tied_itself, entry_cmp, IsAtMost, IsGreatestAmong}
use Rattle.docker_model.specs.file.Change as model
use Rattle.docker_model.specs.state.Op as ops
use Rattle.cif_laws.proofs.orders.AtMost.{eq_is}
use Rattle.cif_laws.proofs.orders.Orders.{key_total, exact_key, entry_total}
use Rattle.cif_laws.proofs.lists.Membership.{Contains-cons, cons-Contains, cons-Contains-first, nil-Contains, Contains-map, map-Contains}
use Rattle.cif_laws.proofs.orders.AtMost.{level}
use Rattle.cif_change.specs.Meaning.{key_meant}
use Rattle.cif_change.specs.declared.key.Key.{Key}
use Rattle.docker_join.specs.declared.entry.Entry.{Entry}
use Rattle.docker_join.specs.Meaning.{op_meant, entry_meant, row_meant}
use Rattle.docker_join.specs.Records.{HasRecords}
use Rattle.docker_join.specs.Exact.{exact_entry}
use Rattle.docker_join.specs.Rows.{row_cmp}
use Rattle.docker_state.specs.Rows.{last_rows}
use Rattle.docker_state.proofs.LastRows.{by_entry, AreSorted, lasts_among, lasts_top}

pub by_entry_total : IsTotalOrder by_entry
by_entry_total = then_total (on_total (λ (r : Key × Entry). key_meant r.0) key_total) (on_total (λ (r : Key × Entry). entry_meant r.1) entry_total)

pub not_under : (a b : Key × Entry) → is_lt (by_entry b a) ≡ false → IsAtMost by_entry a b
not_under = search (rules, by_entry, by_entry_total)

-- Says that `last_rows rows` has a row with the key of `w`. `last_rows` keeps only the last row for each key.
abbrev LastOf : List (Key × Entry) → Key × Entry → Type 0
LastOf rows w = (m : Key × Entry) × Contains (last_rows rows) m × (row_cmp w m ≡ Equal)

last_of : (rows : List (Key × Entry)) (w : Key × Entry) → Contains rows w → LastOf rows w
last_of [] w among = absurd (nil-Contains w among)
last_of (row ∷ []) w among = search (rules, cons-Contains-first, key_total, nil-Contains)
last_of (row ∷ next ∷ rows) w among = by (is_eq (row_cmp next row)) refl (λ v inside. last_of (next ∷ rows) v inside) (Contains-cons row (next ∷ rows) w among)
  where
    by : (b : Bool) → is_eq (row_cmp next row) ≡ b → ((v : Key × Entry) → Contains (next ∷ rows) v → LastOf (next ∷ rows) v)
        → (row ≡ w) ⊎ Contains (next ∷ rows) w
        → (m : Key × Entry) × Contains (cond b (last_rows (next ∷ rows)) (row ∷ last_rows (next ∷ rows))) m × (row_cmp w m ≡ Equal)
    by true h rest (inr inside) = rest w inside
    by true h rest (inl same) =
        let m = rest next (cons-Contains-first next rows) in
        let keys : key_meant next.0 ≡ key_meant row.0 = exact_key (key_meant next.0) (key_meant row.0) (eq_is (row_cmp next row) h) in
        (m.0, m.1, ap (λ (v : Key × Entry). row_cmp v m.0) (sym same) ∙ subst (λ k. ops.key_cmp k (key_meant m.0.0) ≡ Equal) keys m.2)
    by false h rest (inl same) = search (rules, cons-Contains-first, key_total)
    by false h rest (inr inside) = let m = rest w inside in (m.0, cons-Contains row (last_rows (next ∷ rows)) m.0 m.1, m.2)

module _ (rows : List (Key × Entry)) (sorted : AreSorted rows) (records : (row : Key × Entry) → Contains rows row → HasRecords (op_meant row.1.op)) where
  -- each row of `last_rows rows` has the greatest entry for its key
  pub last_is_greatest : (key : model.Key) (entry : ops.Entry) → Contains (map row_meant (last_rows rows)) (key, entry)
      → IsGreatestAmong (map row_meant rows) key entry
  last_is_greatest key entry last =
      let z = Contains-map row_meant (last_rows rows) (key, entry) last in
      record {
        among = subst (Contains (map row_meant rows)) z.2 (map-Contains row_meant rows z.0 (lasts_among rows z.0 z.1));
        greatest = λ other among.
            let w = Contains-map row_meant rows (key, other) among in
            let keys : key_meant w.0.0 ≡ key_meant z.0.0 = (λ i. (w.2 i).0) ∙ sym (λ i. (z.2 i).0) in
            let tied : row_cmp w.0 z.0 ≡ Equal = ap (λ k. ops.key_cmp k (key_meant z.0.0)) keys ∙ tied_itself key_total (key_meant z.0.0) in
            subst (λ e. IsAtMost entry_cmp other e) (λ i. (z.2 i).1)
            (subst (λ e. IsAtMost entry_cmp e (entry_meant z.0.1)) (λ i. (w.2 i).1) (lasts_top rows sorted z.0 z.1 w.0 w.1 tied));
      }

  -- for each key in `rows`, `last_rows rows` has the row with the greatest entry for the key
  pub greatest_is_last : (key : model.Key) (entry : ops.Entry) → IsGreatestAmong (map row_meant rows) key entry
      → Contains (map row_meant (last_rows rows)) (key, entry)
  greatest_is_last key entry best =
      let w = Contains-map row_meant rows (key, entry) best.among in
      let m = last_of rows w.0 w.1 in
      let keys : key_meant w.0.0 ≡ key_meant m.0.0 = exact_key (key_meant w.0.0) (key_meant m.0.0) m.2 in
      let at : row_meant m.0 ≡ (key, entry_meant m.0.1) = (λ i. ((sym keys ∙ (λ j. (w.2 j).0)) i, entry_meant m.0.1)) in
      let inside = lasts_among rows m.0 m.1 in
      let high = best.greatest (entry_meant m.0.1) (subst (Contains (map row_meant rows)) at (map-Contains row_meant rows m.0 inside)) in
      let low = subst (λ e. IsAtMost entry_cmp e (entry_meant m.0.1)) (λ i. (w.2 i).1) (lasts_top rows sorted m.0 m.1 w.0 w.1 m.2) in
      let tied = level entry_total (entry_meant m.0.1) entry high low in
      let same : m.0.1 ≡ w.0.1 = exact_entry m.0.1 w.0.1 (records m.0 inside) (records w.0 w.1) (ap (entry_cmp (entry_meant m.0.1)) (λ i. (w.2 i).1) ∙ tied) in
      let whole : row_meant m.0 ≡ (key, entry) = at ∙ (λ i. (key, (ap entry_meant same ∙ (λ j. (w.2 j).1)) i)) in
      subst (Contains (map row_meant (last_rows rows))) whole (map-Contains row_meant (last_rows rows) m.0 m.1)
