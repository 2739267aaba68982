-- The number of schedules that call at a place equals the number of live rows that pass the test
-- `is_call_at` for that place.
use Rattle.cif_laws.proofs.Common.{◌≡◌, ℕ, List, [], ◌∷◌, length, refl, ap, sym, ◌∙◌, subst, Bool, true, Contains, Some, arith, rules, filter, map, ◌&&◌}
use Rattle.cif_laws.proofs.Common.{list_any, bytes_eq, on, IsTotalOrder, on_total, bytes_eq-Decides, columns, Key, association_key, schedule_key, tiploc_key}
use Rattle.cif_laws.proofs.Common.{Body, association_body, schedule_body, tiploc_body, key_cmp, put_with, State, IsValid, live_table, Table, Row, AreInKeyOrder}
use Rattle.cif_laws.proofs.Common.{AreRowsOf}
use Rattle.std.proofs.lemmas.Map.Views.{Contains-from_any}
use Rattle.cif_laws.proofs.lists.FilteredMembers.{filter_back, filter_forth}
use Rattle.cif_laws.proofs.lists.Later.{later_filter}
use Rattle.cif_laws.proofs.lists.Membership.{nil-Contains}
use Rattle.cif_laws.proofs.orders.Ascending.{same_list, ascending_of, later_of}
use Rattle.cif_laws.proofs.orders.Orders.{key_total}
use Rattle.state_index.specs.NamedPlaces.{call_places}
use Rattle.state_laws.specs.Index.{AreCalling}
use Rattle.state_index.specs.Counts.{IsCallingCount}
use Rattle.state_index.proofs.RowPlaces.{Calls, call_back, call_forth}
use Rattle.docker_state.specs.Live.{live_rows}
use Rattle.docker_state.proofs.LiveTable.{live_walks, live_ascends}
use Rattle.docker_model.specs.lists.PlacesText.{count_at, is_call_at}

-- whether the index names this place for a live row of a schedule
abbrev names : List ℕ → Row → Bool
names place row = list_any (bytes_eq place) (call_places row.0 (put_with row.1))

rows_total : IsTotalOrder (on (λ (row : Row). row.0) key_cmp)
rows_total = on_total (λ (row : Row). row.0) key_total

-- two lists that have exactly the rows of one table, in order, are equal
pub one_rows : (live : Table) (rows others : List Row) → AreRowsOf live rows → AreRowsOf live others → rows ≡ others
one_rows live rows others one two = same_list rows_total _ _ one.ascending two.ascending (λ row. (
  λ among. (two.members row.0 row.1).1 ((one.members row.0 row.1).0 among),
  λ among. (one.members row.0 row.1).1 ((two.members row.0 row.1).0 among),
))

-- if a list of places contains this place, `list_any` finds it
has_place : (place : List ℕ) (places : List (List ℕ)) → Contains places place → list_any (bytes_eq place) places ≡ true
has_place place [] among = absurd (nil-Contains place among)
has_place place (other ∷ places) among = grind (arith, bytes_eq-Decides, (has_place place places))

-- each live row that passes the test `names place` is a schedule that calls at the place
passes_back : (place : List ℕ) (key : Key) (body : Body) → names place (key, body) ≡ true → Calls key (put_with body) place
passes_back place key body passes = call_back _ _ _
    (Contains-from_any {eq = bytes_eq} (λ x y same. (bytes_eq-Decides x y).0 same) place (call_places key (put_with body)) passes)

put_is : (body other : Body) → put_with body ≡ put_with other → body ≡ other
put_is body other same = cc

module _ (live : Table) (rows : List Row) (are : AreRowsOf live rows) (place : List ℕ) where
  passing_ascend : AreInKeyOrder (filter (names place) rows)
  passing_ascend = search (rules, ascending_of, later_filter, later_of)

  -- the schedules that call at the place are exactly the live rows that pass the test `names place`
  calling_are : (calling : List Row) → AreCalling live place calling → calling ≡ filter (names place) rows
  calling_are calling is = same_list rows_total _ (filter (names place) rows) is.ascending passing_ascend (λ row. (forth row, back row))
    where
      forth : (row : Row) → Contains calling row → Contains (filter (names place) rows) row
      forth row among =
          let told = (is.members row.0 row.1).0 among in
          filter_forth _ rows _ ((are.members row.0 row.1).1 (ap live told.2 ∙ told.4.is_live ∙ sym (ap Some told.3))) (has_place place _
          (subst (λ (it : Row). Contains (call_places it.0 (put_with it.1)) place) (λ i. (sym told.2 i, sym told.3 i))
          (call_forth told.0 _ place told.4.calls)))

      back : (row : Row) → Contains (filter (names place) rows) row → Contains calling row
      back row among =
          let passed = filter_back _ rows _ among in
          let calls = passes_back place _ row.1 passed.1 in
          let body_is = put_is _ (schedule_body calls.1) calls.3 in
          (is.members row.0 row.1).1 (
            calls.0,
            calls.1,
            calls.2,
            body_is,
            record {
              is_live = sym (ap live calls.2) ∙ (are.members row.0 row.1).0 passed.0 ∙ ap Some body_is;
              calls = calls.4;
            },
          )

-- the live rows of a state's entries are the rows of its live table
pub rows_are : (state : State) → IsValid state → AreRowsOf (live_table state) (live_rows state.entries)
rows_are = search (rules, live_ascends, live_walks)

-- a test of the kept and converted elements is a test of the elements
any_kept : {A B : Type 0} (p : A → Bool) (f : A → B) (q r : B → Bool) → ((y : B) → q y ≡ r y) → (xs : List A)
    → list_any q (map f (filter p xs)) ≡ list_any (λ x. p x && r (f x)) xs
any_kept p f q r same [] = refl
any_kept p f q r same (x ∷ xs) = grind (arith, (any_kept p f q r same xs))

-- the order of the texts that are compared doesn't matter
either_way : (a b : List ℕ) → bytes_eq a b ≡ bytes_eq b a
either_way = search (rules, bytes_eq-Decides)

-- the index names a place for a row exactly if the row is a schedule that calls there
named_is_call : (place : List ℕ) (key : Key) (body : Body) → names place (key, body) ≡ is_call_at place key body
named_is_call place (tiploc_key code) body = refl
named_is_call place (association_key key) body = refl
named_is_call place (schedule_key key) (tiploc_body bytes) = refl
named_is_call place (schedule_key key) (association_body line) = refl
named_is_call place (schedule_key key) (schedule_body lines) = any_kept _ (columns 3 9) _ (λ code. bytes_eq code place) (either_way _) lines

-- two tests with the same results keep the same rows
kept_same : (p q : Row → Bool) → ((row : Row) → p row ≡ q row) → (rows : List Row) → filter p rows ≡ filter q rows
kept_same = search rules

-- the number of schedules that call at a place equals the number of live rows that pass the test `is_call_at`
pub count_is : (state : State) → IsValid state → (place : List ℕ) (count : ℕ) → IsCallingCount (live_table state) place count
    → count ≡ count_at place (live_rows state.entries)
count_is state valid place count counted =
    sym counted.2 ∙ ap length (calling_are (live_table state) (live_rows state.entries) (rows_are state valid) place counted.0 counted.1)
    ∙ ap length (kept_same (names place) (λ (row : Row). is_call_at place row.0 row.1) (λ row. named_is_call place row.0 row.1) (live_rows state.entries))
