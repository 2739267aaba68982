-- Rows of a table, each a key with a value. The keys may be of any type: `meant` converts them to
-- keys of the definitions.
use Rattle.cif_laws.proofs.Common.{◌≡◌, List, [], ◌∷◌, refl, sym, ◌∙◌, subst, Contains, Option, Some, None, arith, rules, common_steps, find, AllByRecursion}
use Rattle.cif_laws.proofs.Common.{option_map, Ordering, Less, Equal, Greater, is_eq, IsTotalOrder, on_total, Key, key_cmp, IsStrictlyAscending}
use Rattle.cif_laws.proofs.orders.Orders.{key_total, exact_key}
use Rattle.cif_laws.proofs.orders.Ascending.{same_list}
use Rattle.cif_laws.proofs.lists.Membership.{cons-Contains, cons-Contains-first, nil-Contains, below_by_recursion}

module _ {K E : Type 0} (meant : K → Key) where
  -- the order of rows by their keys
  abbrev keyed_cmp : K × E → K × E → Ordering
  keyed_cmp a b = key_cmp (meant a.0) (meant b.0)

  -- Says that the keys of the rows are strictly increasing.
  abbrev AreUp : List (K × E) → Type 0
  AreUp rows = IsStrictlyAscending keyed_cmp rows

  -- the value of the first row with this key, or `None` if no row has it
  abbrev value_in : List (K × E) → Key → Option E
  value_in rows key = option_map (λ (row : K × E). row.1) (find (λ (row : K × E). is_eq (key_cmp (meant row.0) key)) rows)

  -- Says that some row has this key and this value.
  abbrev pub RowWith : List (K × E) → Key → E → Type 0
  RowWith rows key value = (row : K × E) × Contains rows row × (meant row.0 ≡ key) × (row.1 ≡ value)

  keyed_total : IsTotalOrder keyed_cmp
  keyed_total = on_total (λ (row : K × E). meant row.0) key_total

  -- at the key of the first row, the value is the first row's value
  pub value_here : (row : K × E) (rows : List (K × E)) (key : Key) → key_cmp (meant row.0) key ≡ Equal → value_in (row ∷ rows) key ≡ Some row.1
  value_here = search rules

  -- at any key other than the first row's key, the value is the same with and without the first row
  pub value_behind : (row : K × E) (rows : List (K × E)) (key : Key) → ¬ (key_cmp (meant row.0) key ≡ Equal)
      → value_in (row ∷ rows) key ≡ value_in rows key
  value_behind = search rules

  -- if all rows are above a key, they don't have this key
  pub value_above : (key : Key) (rows : List (K × E)) → AllByRecursion (λ (row : K × E). key_cmp key (meant row.0) ≡ Less) rows → value_in rows key ≡ None
  value_above key [] above = refl
  value_above key (row ∷ rows) above =
      value_behind row rows key (λ tied. let turned = key_total.antisymm key (meant row.0) in let below = above.0 in cc)
      ∙ value_above key rows above.1

  -- in ascending rows, the value at the key of any row is that row's value
  pub value_of : (rows : List (K × E)) (row : K × E) → AreUp rows → Contains rows row → value_in rows (meant row.0) ≡ Some row.1
  value_of [] row up among = absurd (nil-Contains row among)
  value_of (first ∷ rows) row up among = grind (common_steps, arith, value_here, key_total, value_behind, below_by_recursion, (value_of rows row up.1))

  -- if rows have a value at a key, some row has this key and this value
  pub row_of : (rows : List (K × E)) (key : Key) (value : E) → value_in rows key ≡ Some value → RowWith rows key value
  row_of [] key value found = cc
  row_of (row ∷ rows) key value found = by (key_cmp (meant row.0) key) refl (row_of rows key value)
    where
      by : (o : Ordering) → key_cmp (meant row.0) key ≡ o → (value_in rows key ≡ Some value → RowWith rows key value) → RowWith (row ∷ rows) key value
      by Equal tied rest =
          let here = value_here row rows key tied in
          (row, cons-Contains-first row rows, exact_key (meant row.0) key tied, (let same : row.1 ≡ value = cc in same))
      by Less is rest =
          let later = rest (sym (value_behind row rows key (λ tied. cc)) ∙ found) in
          (later.0, cons-Contains row rows later.0 later.1, later.2, later.3)
      by Greater is rest =
          let later = rest (sym (value_behind row rows key (λ tied. cc)) ∙ found) in
          (later.0, cons-Contains row rows later.0 later.1, later.2, later.3)

  -- if two lists of ascending rows have the same value at each key, they are equal. Keys are equal
  -- if they are converted to equal keys
  pub same_rows : ((a b : K) → meant a ≡ meant b → a ≡ b) → (a b : List (K × E)) → AreUp a → AreUp b
      → ((key : Key) → value_in a key ≡ value_in b key) → a ≡ b
  same_rows same_key a b up_a up_b same = same_list keyed_total _ _ up_a up_b (λ row. (into a b up_a same row, into b a up_b (λ key. sym (same key)) row))
    where
      into : (x y : List (K × E)) → AreUp x → ((key : Key) → value_in x key ≡ value_in y key) → (row : K × E) → Contains x row → Contains y row
      into x y up_x alike row among =
          let there = row_of _ _ _ (sym (alike (meant row.0)) ∙ value_of _ _ up_x among) in
          let whole : there.0 ≡ row = (λ i. (same_key there.0.0 row.0 there.2 i, there.3 i)) in
          subst (Contains y) whole there.1
