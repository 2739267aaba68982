-- Lemmas on what a binary search in the rows of a table finds.
use Rattle.cif_laws.proofs.Common.{rules, ◌+◌, ◌-◌, false, ◌≡◌, ℕ, ◌<◌, ◌≤◌, List, length, get_or, refl, ap, sym, ◌∙◌, subst, Some, None, inl, inr, arith}
use Rattle.cif_laws.proofs.Common.{cases_lt, searchable_from_sorted, AllPairs, is_lt, IsNonDecreasingBy, IsPartitionPoint, Ordering, Less, Equal, Greater}
use Rattle.cif_laws.proofs.Common.{ordering_index, ordering_reverse, tied_itself, key_cmp, IsBelow}
use Rattle.cif_laws.proofs.lists.Later.{pairs_from_later}
use Rattle.cif_laws.proofs.orders.Ascending.{later_of}
use Rattle.docker_model.specs.file.Change as model
use Rattle.cif_laws.proofs.orders.Orders.{key_total, exact_key}
use Rattle.cif_change.specs.declared.key.Key.{Key}
use Rattle.cif_change.specs.Meaning.{key_meant}
use Rattle.docker_join.specs.Rows.{row_cmp, AreAscending, value_at}
use Rattle.docker_join.specs.RowLaws.{value_of, row_of}

-- how the key of a row compares with a given key
abbrev pub by_key : {E : Type 0} → model.Key → Key × E → Ordering
by_key key row = key_cmp (key_meant row.0) key

module _ {E : Type 0} where
  -- in ascending rows, each row is below any later row
  pub below_at : (rows : List (Key × E)) → AreAscending rows → AllPairs (IsBelow row_cmp) rows
  below_at rows up = pairs_from_later (IsBelow row_cmp) rows (later_of row_cmp rows up)

  -- the comparison of rows is antisymmetric: no row is below a row that is below it
  pub not_back : (x y : Key × E) → row_cmp x y ≡ Less → is_lt (row_cmp y x) ≡ false
  not_back x y below = ap is_lt (key_total.antisymm (key_meant y.0) (key_meant x.0) ∙ ap ordering_reverse below)

  -- in ascending rows, the comparison with a key is monotone from one row to the next
  pub rows_rise : (rows : List (Key × E)) (key : model.Key) → AreAscending rows → IsNonDecreasingBy (λ row. ordering_index (by_key key row)) rows
  rows_rise rows key up = searchable_from_sorted key_total (λ (row : Key × E). key_meant row.0) rows key (λ k d low within.
      not_back (get_or rows k d) (get_or rows (k + 1) d) (below_at rows up k (k + 1) d (omega arith) within))

  -- suppose that a key is above the row just before an index, and below the row at the index. Then it is above all rows before the index, and below all other
  -- rows
  pub parts_at : (rows : List (Key × E)) (key : model.Key) (at : ℕ) → AreAscending rows → at ≤ length rows
      → ((d : Key × E) → 0 < at → by_key key (get_or rows (at - 1) d) ≡ Less) → ((d : Key × E) → at < length rows → by_key key (get_or rows at d) ≡ Greater)
      → IsPartitionPoint (λ row. by_key key row ≡ Less) (λ row. by_key key row ≡ Greater) rows at
  parts_at rows key at up within before after = (
    λ i d low high. least _ _ (rows_rise rows key up i (at - 1) d (omega arith) (omega arith)) (before d (omega arith)),
    λ i d low high. most _ _ (rows_rise rows key up at i d low high) (after d (omega arith)),
  )
    where
      least : (o p : Ordering) → ordering_index o ≤ ordering_index p → p ≡ Less → o ≡ Less
      least = search rules

      most : (o p : Ordering) → ordering_index o ≤ ordering_index p → o ≡ Greater → p ≡ Greater
      most = search rules

  -- if the search finds a row with the key, the value in this row is the value at the key
  pub row_found : (rows : List (Key × E)) (key : model.Key) (at : ℕ) (row : Key × E) → AreAscending rows → at < length rows → row ≡ get_or rows at row
      → ((d : Key × E) → by_key key (get_or rows at d) ≡ Equal) → Some row.1 ≡ value_at rows key
  row_found rows key at row up within is tied =
      let here : by_key key row ≡ Equal = ap (by_key key) is ∙ tied row in
      sym (subst (λ k. value_at rows k ≡ Some row.1) (exact_key (key_meant row.0) key here) (value_of rows row up (at, within, sym is)))

  -- if each row is either below or above the key, the rows don't have the key
  pub row_missing : (rows : List (Key × E)) (key : model.Key) (at : ℕ) → AreAscending rows
      → IsPartitionPoint (λ row. by_key key row ≡ Less) (λ row. by_key key row ≡ Greater) rows at → None ≡ value_at rows key
  row_missing rows key at up parts = (elim (value_at rows key) as (λ o. value_at rows key ≡ o → None ≡ o) [
    | None ↦ λ is. refl
    | Some value ↦ λ is.
        let row = row_of rows key value is in
        let tied = ap (λ k. key_cmp k key) row.2 ∙ tied_itself key_total key in
        let same = ap (by_key key) row.1.2 in
        absurd (elim (cases_lt row.1.0 at) [
          | inl before ↦ let below = parts.0 row.1.0 row.0 (omega arith) before in cc
          | inr after ↦ let above = parts.1 row.1.0 row.0 after row.1.1 in cc
        ])
  ]) refl
