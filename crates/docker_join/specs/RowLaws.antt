-- The laws of the join of tables: it is commutative, associative and idempotent.
use Rattle.std.proofs.Common.{◌≡◌, List, refl, ap, sym, ◌∙◌, subst, Contains, Option, Some, None}
use Rattle.std.specs.Prelude.{⊤}
use Rattle.docker_model.specs.file.Change as model
use Rattle.cif_laws.proofs.lists.Membership.{all_members, member_of}
use Rattle.state_laws.proofs.joins.KeyedRows as keyed
use Rattle.state_laws.proofs.joins.PickLaws.{ArePickLaws}
use Rattle.cif_change.specs.declared.key.Key.{Key}
use Rattle.cif_change.specs.Meaning.{key_meant}
use Rattle.cif_change.proofs.SameKeys.{same_key}
use Rattle.docker_join.specs.Rows.{AreAscending, AreValidRows, value_at, picked_value, IsJoinOfRows}

module _ {E : Type 0} where
  -- in ascending rows, the value at the key of any row is that row's value
  pub value_of : (rows : List (Key × E)) (row : Key × E) → AreAscending rows → Contains rows row → value_at rows (key_meant row.0) ≡ Some row.1
  value_of = keyed.value_of key_meant

  -- if rows have a value at a key, some row has this key and this value
  pub row_of : (rows : List (Key × E)) (key : model.Key) (value : E) → value_at rows key ≡ Some value → keyed.RowWith key_meant rows key value
  row_of = keyed.row_of key_meant

  -- if two lists of ascending rows have the same value at each key, they are equal
  pub same_rows : (a b : List (Key × E)) → AreAscending a → AreAscending b → ((key : model.Key) → value_at a key ≡ value_at b key) → a ≡ b
  same_rows = keyed.same_rows key_meant same_key

-- Says that a value is valid, or that there is no value.
abbrev IsValidValue : {E : Type 0} → (E → Type 0) → Option E → Type 0
IsValidValue valid None = ⊤
IsValidValue valid (Some value) = valid value

-- the join of two tables is unique
pub joins_one : {E : Type 0} (valid : E → Type 0) (picked : E → E → E) (a b c d : List (Key × E))
    → AreValidRows valid a → AreValidRows valid b → IsJoinOfRows picked a b c → IsJoinOfRows picked a b d → c ≡ d
joins_one valid picked a b c d good_a good_b is_c is_d =
    same_rows c d is_c.ascends is_d.ascends (λ key. is_c.values key ∙ sym (is_d.values key))

module _ {E : Type 0} (valid : E → Type 0) (picked : E → E → E) (laws : ArePickLaws valid picked) where
  -- if all values are valid, so is the value at any key that the rows have
  valid_at : (rows : List (Key × E)) (key : model.Key) → AreValidRows valid rows → IsValidValue valid (value_at rows key)
  valid_at rows key good = by (value_at rows key) refl
    where
      by : (o : Option E) → value_at rows key ≡ o → IsValidValue valid o
      by None is = tt
      by (Some value) is =
          let found = row_of rows key value is in
          subst valid found.3 (member_of (λ (row : Key × E). valid row.1) rows found.0 good.1 found.1)

  values_closed : (a b : Option E) → IsValidValue valid a → IsValidValue valid b → IsValidValue valid (picked_value picked a b)
  values_closed None b good_a good_b = good_b
  values_closed (Some a) None good_a good_b = good_a
  values_closed (Some a) (Some b) good_a good_b = laws.closed a b good_a good_b

  values_commute : (a b : Option E) → IsValidValue valid a → IsValidValue valid b → picked_value picked a b ≡ picked_value picked b a
  values_commute None None good_a good_b = refl
  values_commute None (Some b) good_a good_b = refl
  values_commute (Some a) None good_a good_b = refl
  values_commute (Some a) (Some b) good_a good_b = ap Some (laws.commutes a b good_a good_b)

  values_associate : (a b c : Option E) → IsValidValue valid a → IsValidValue valid b → IsValidValue valid c
      → picked_value picked (picked_value picked a b) c ≡ picked_value picked a (picked_value picked b c)
  values_associate None b c good_a good_b good_c = refl
  values_associate (Some a) None None good_a good_b good_c = refl
  values_associate (Some a) None (Some c) good_a good_b good_c = refl
  values_associate (Some a) (Some b) None good_a good_b good_c = refl
  values_associate (Some a) (Some b) (Some c) good_a good_b good_c = ap Some (laws.associates a b c good_a good_b good_c)

  values_itself : (a : Option E) → IsValidValue valid a → a ≡ picked_value picked a a
  values_itself None good = refl
  values_itself (Some a) good = ap Some (sym (laws.itself a good))

  -- the join of valid tables is valid
  pub joins_closed : (a b c : List (Key × E)) → AreValidRows valid a → AreValidRows valid b → IsJoinOfRows picked a b c → AreValidRows valid c
  joins_closed a b c good_a good_b is = (
    is.ascends,
    all_members (λ (row : Key × E). valid row.1) c (λ row among.
        subst (IsValidValue valid) (sym (is.values (key_meant row.0)) ∙ value_of c row is.ascends among)
        (values_closed (value_at a (key_meant row.0)) (value_at b (key_meant row.0)) (valid_at a (key_meant row.0) good_a)
        (valid_at b (key_meant row.0) good_b))),
  )

  -- the join of valid tables is commutative: it doesn't depend on the order of the tables
  pub joins_commute : (a b c : List (Key × E)) → AreValidRows valid a → AreValidRows valid b → IsJoinOfRows picked a b c → IsJoinOfRows picked b a c
  joins_commute a b c good_a good_b is = record {
    ascends = is.ascends;
    values = λ key. is.values key ∙ values_commute (value_at a key) (value_at b key) (valid_at a key good_a) (valid_at b key good_b);
  }

  -- the join of valid tables is associative: the join of three tables is the same whichever two of them are joined first
  pub joins_associate : (a b c ab bc left right : List (Key × E)) → AreValidRows valid a → AreValidRows valid b → AreValidRows valid c
      → IsJoinOfRows picked a b ab → IsJoinOfRows picked ab c left → IsJoinOfRows picked b c bc → IsJoinOfRows picked a bc right → left ≡ right
  joins_associate a b c ab bc left right good_a good_b good_c is_ab is_left is_bc is_right =
      same_rows left right is_left.ascends is_right.ascends (λ key.
      is_left.values key
      ∙ ap (λ value. picked_value picked value (value_at c key)) (is_ab.values key)
      ∙ values_associate (value_at a key) (value_at b key) (value_at c key) (valid_at a key good_a) (valid_at b key good_b) (valid_at c key good_c)
      ∙ sym (ap (λ value. picked_value picked (value_at a key) value) (is_bc.values key))
      ∙ sym (is_right.values key))

  -- the join of valid tables is idempotent: the join of a table with itself is this table
  pub joins_itself : (a : List (Key × E)) → AreValidRows valid a → IsJoinOfRows picked a a a
  joins_itself a good = record { ascends = good.0; values = λ key. values_itself (value_at a key) (valid_at a key good) }
