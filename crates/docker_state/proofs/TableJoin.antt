-- The join of two tables has, for each key, the greater of the two tables' entries.
use Rattle.cif_laws.proofs.Common.{◌≡◌, List, ◌++◌, map, refl, ap, ◌⊎◌, sym, ◌∙◌, subst, inl, inr, Contains, Some, None, Option, on, on_total}
use Rattle.cif_laws.proofs.Common.{Contains-append_left, Contains-append_right, Contains-append_cases, key_cmp, entry_cmp, FileStamp, Ordering, IsAtMost}
use Rattle.cif_laws.proofs.Common.{IsGreatestAmong}
use Rattle.std.specs.Ordering.{ord_max}
use Rattle.docker_model.specs.file.Change as model
use Rattle.docker_model.specs.state.Op as ops
use Rattle.cif_laws.proofs.orders.Orders.{entry_total}
use Rattle.cif_laws.proofs.orders.AtMost.{level, at_most_itself}
use Rattle.cif_laws.proofs.lists.Membership.{Contains-map, map-Contains}
use Rattle.docker_join.specs.declared.entry.Entry.{Entry}
use Rattle.docker_join.specs.Meaning.{op_meant, entry_meant, row_meant}
use Rattle.cif_laws.proofs.orders.Greater.{greater_max}
use Rattle.cif_change.specs.declared.key.Key.{Key}
use Rattle.docker_join.specs.Records.{HasRecords}
use Rattle.docker_join.specs.Exact.{exact_entry}
use Rattle.docker_join.specs.Rows.{AreAscending, value_at, picked_value, IsJoinOfRows}
use Rattle.docker_join.specs.RowLaws.{value_of, row_of}

-- a key with its entry, in the definitions' types
abbrev pub Keyed : Type 0
Keyed = model.Key × ops.Entry

-- compares two keys with their entries by key only
abbrev pub by_key : Keyed → Keyed → Ordering
by_key a b = key_cmp a.0 b.0

-- the stamp of the file that an entry comes from
abbrev pub file_of : Keyed → FileStamp
file_of pair = pair.1.stamp.file

-- Says that the code's rows have a value at this key, and that this value is converted to this entry.
abbrev pub ValueMeant : List (Key × Entry) → model.Key → ops.Entry → Type 0
ValueMeant rows key entry = (value : Entry) × (value_at rows key ≡ Some value) × (entry_meant value ≡ entry)

-- if an entry is among ascending rows, it is the value at its key
pub value_in : (rows : List (Key × Entry)) → AreAscending rows → (key : model.Key) (entry : ops.Entry) → Contains (map row_meant rows) (key, entry)
    → ValueMeant rows key entry
value_in rows up key entry among =
    let found = Contains-map row_meant rows (key, entry) among in
    (found.0.1, subst (λ k. value_at rows k ≡ Some found.0.1) (λ i. (found.2 i).0) (value_of rows found.0 up found.1), λ i. (found.2 i).1)

-- if rows have a value at a key, this key with this value is among the rows
pub in_rows : (rows : List (Key × Entry)) (key : model.Key) (value : Entry) → value_at rows key ≡ Some value
    → Contains (map row_meant rows) (key, entry_meant value)
in_rows rows key value found =
    let row = row_of rows key value found in
    let same : row_meant row.0 ≡ (key, entry_meant value) = (λ i. (row.2 i, entry_meant (row.3 i))) in
    subst (Contains (map row_meant rows)) same (map-Contains row_meant rows row.0 row.1)

-- the greater of two entries
abbrev pub higher : Entry → Entry → Entry
higher = ord_max (on entry_meant entry_cmp)

-- an optional value is equal to at most one value
pub same_value : (a b : Entry) (o : Option Entry) → o ≡ Some a → o ≡ Some b → a ≡ b
same_value a b o is_a is_b = cc

-- the joined value is one of the two values
picked_from : (a b : Option Entry) (value : Entry) → picked_value higher a b ≡ Some value → (a ≡ Some value) ⊎ (b ≡ Some value)
picked_from None b value is = inr is
picked_from (Some v) None value is = inl is
picked_from (Some v) (Some w) value is =
    elim (greater_max (λ e. HasRecords (op_meant e.op)) (on_total entry_meant entry_total) v w).among [
      | inl same ↦ inl (ap Some (sym same) ∙ is)
      | inr same ↦ inr (ap Some (sym same) ∙ is)
    ]

-- if there is a value, there is a joined value, and the value is at most equal to it
picked_top : (a b : Option Entry) (e : Entry) → (a ≡ Some e) ⊎ (b ≡ Some e)
    → (value : Entry) × (picked_value higher a b ≡ Some value) × IsAtMost entry_cmp (entry_meant e) (entry_meant value)
picked_top None b e (inl is) = absurd (let none : None ≡ Some e = is in cc)
picked_top None b e (inr is) = (e, is, at_most_itself entry_total (entry_meant e))
picked_top (Some v) None e (inl is) = (e, is, at_most_itself entry_total (entry_meant e))
picked_top (Some v) None e (inr is) = absurd (let none : None ≡ Some e = is in cc)
picked_top (Some v) (Some w) e is =
    let top = greater_max (λ e. HasRecords (op_meant e.op)) (on_total entry_meant entry_total) v w in (
      higher v w,
      refl,
      elim is [
        | inl first ↦ subst (λ x. IsAtMost entry_cmp (entry_meant x) (entry_meant (higher v w))) (let same : v ≡ e = cc in same) top.first
        | inr second ↦ subst (λ x. IsAtMost entry_cmp (entry_meant x) (entry_meant (higher v w))) (let same : w ≡ e = cc in same) top.second
      ],
    )

module _ (first second joined : List (Key × Entry)) (up_first : AreAscending first) (up_second : AreAscending second)
    (is : IsJoinOfRows higher first second joined) where
  abbrev Both : List (model.Key × ops.Entry)
  Both = map row_meant first ++ map row_meant second

  -- if one of the tables has an entry for a key, so does the join, and the entry is at most equal to the join's entry
  joined_over : (key : model.Key) (entry : ops.Entry) → Contains Both (key, entry)
      → (e : Entry) × (entry_meant e ≡ entry) × (value : Entry) × (value_at joined key ≡ Some value) × IsAtMost entry_cmp entry (entry_meant value)
  joined_over key entry among = elim (Contains-append_cases (map row_meant first) (map row_meant second) (key, entry) among) [
    | inl inside ↦ of (value_in first up_first key entry inside) (λ e e_is. inl e_is)
    | inr inside ↦ of (value_in second up_second key entry inside) (λ e e_is. inr e_is)
  ]
    where
      of : {o : Option Entry} → (e : Entry) × (o ≡ Some e) × (entry_meant e ≡ entry)
          → ((e : Entry) → o ≡ Some e → (value_at first key ≡ Some e) ⊎ (value_at second key ≡ Some e))
          → (e : Entry) × (entry_meant e ≡ entry) × (value : Entry) × (value_at joined key ≡ Some value) × IsAtMost entry_cmp entry (entry_meant value)
      of e side =
          let over = picked_top (value_at first key) (value_at second key) e.0 (side e.0 e.1) in
          (e.0, e.2, over.0, is.values key ∙ over.1, subst (λ x. IsAtMost entry_cmp x (entry_meant over.0)) e.2 over.2)

  -- each entry of the join is the greatest entry that the two tables have for its key
  pub joined_greatest : (key : model.Key) (entry : ops.Entry) → Contains (map row_meant joined) (key, entry) → IsGreatestAmong Both key entry
  joined_greatest key entry among =
      let there = value_in joined is.ascends key entry among in
      record {
        among = subst (λ e. Contains Both (key, e)) there.2 (elim (picked_from _ _ there.0 (sym (is.values key) ∙ there.1)) [
          | inl in_first ↦ Contains-append_left (map row_meant first) (map row_meant second) _ (in_rows first key there.0 in_first)
          | inr in_second ↦ Contains-append_right (map row_meant first) (map row_meant second) _ (in_rows second key there.0 in_second)
        ]);
        greatest = λ other inside.
            let over = joined_over key other inside in
            subst (IsAtMost entry_cmp other) (ap entry_meant (same_value over.2 there.0 _ over.3 there.1) ∙ there.2) over.4;
      }

  -- if the bodies' lines are records, the greatest entry that the two tables have for a key is in the join
  pub greatest_joined : ((pair : model.Key × ops.Entry) → Contains Both pair → HasRecords pair.1.op) → (key : model.Key) (entry : ops.Entry)
      → IsGreatestAmong Both key entry → Contains (map row_meant joined) (key, entry)
  greatest_joined records key entry best =
      let over = joined_over key entry best.among in
      let inside = in_rows joined key over.2 over.3 in
      let top = joined_greatest key (entry_meant over.2) inside in
      let tied = level entry_total (entry_meant over.2) entry (best.greatest (entry_meant over.2) top.among) over.4 in
      let same : over.2 ≡ over.0 = exact_entry over.2 over.0 (records (key, entry_meant over.2) top.among)
      (subst (λ (v : ops.Entry). HasRecords v.op) (sym over.1) (records (key, entry) best.among)) (ap (entry_cmp (entry_meant over.2)) over.1 ∙ tied) in
      subst (λ v. Contains (map row_meant joined) (key, v)) (ap entry_meant same ∙ over.1) inside
