-- A restricted table has only the keys that pass a test. Its rows are the rows of the whole table
-- whose keys pass the test.
use Rattle.cif_laws.proofs.Common.{◌≡◌, ℕ, List, ap, ◌∙◌, Bool, true, cond, Some, None, rules, Contains, ◌↔◌, Key, association_key, schedule_key, Body}
use Rattle.cif_laws.proofs.Common.{association_body, schedule_body, HasGoodBodies, Table, Row, AreInKeyOrder, AreRowsOf}
use Rattle.state_laws.specs.Index.{AreCalling, AreLinked, AreOfUid}
use Rattle.cif_laws.proofs.lists.FilteredMembers.{filter_back, filter_forth}
use Rattle.cif_laws.proofs.lists.Later.{later_filter}
use Rattle.cif_laws.proofs.orders.Ascending.{later_of, ascending_of}
use Rattle.state_laws.specs.CountedRows.{counted_table, counted_rows, IsOfGoodRows}

module _ (counts : Key → Bool) where
  abbrev row_counts : Row → Bool
  row_counts row = counts row.0

  -- if rows are in key order, the rows that pass the test are in key order
  counted_ascend : (rows : List Row) → AreInKeyOrder rows → AreInKeyOrder (counted_rows counts rows)
  counted_ascend = search (rules, ascending_of, later_filter, later_of)

  -- if the restricted table has a body at a key, the whole table has the same body at this key, and
  -- the key passes the test
  pub was_counted : (live : Table) (key : Key) (body : Body) → counted_table counts live key ≡ Some body → (counts key ≡ true) × (live key ≡ Some body)
  was_counted = search rules

  -- if the whole table has a body at a key, and the key passes the test, the restricted table has
  -- the same body at this key
  stays_counted : (live : Table) (key : Key) (body : Body) → counts key ≡ true → live key ≡ Some body → counted_table counts live key ≡ Some body
  stays_counted live key body passes is = (λ i. cond (passes i) (live key) None) ∙ is

  -- suppose that the rows of the whole table are the rows with a first property. A second property is
  -- the same for keys that pass the test, and false for other keys. Then the rows that pass the test
  -- are the rows with the second property
  counted_by : (Was Is : Key → Body → Type 0) (rows : List Row) → ((key : Key) (body : Body) → Contains rows (key, body) ↔ Was key body)
      → ((key : Key) (body : Body) → counts key ≡ true → Was key body → Is key body)
      → ((key : Key) (body : Body) → Is key body → (counts key ≡ true) × Was key body)
      → (key : Key) (body : Body) → Contains (counted_rows counts rows) (key, body) ↔ Is key body
  counted_by Was Is rows members to from key body = (
    λ among. let found = filter_back row_counts rows (key, body) among in to key body found.1 ((members key body).0 found.0),
    λ is. let told = from key body is in filter_forth row_counts rows (key, body) ((members key body).1 told.1) told.0,
  )

  pub counted_calling : (live : Table) (place : List ℕ) (rows : List Row) → AreCalling live place rows
      → AreCalling (counted_table counts live) place (counted_rows counts rows)
  counted_calling live place rows are = record {
    ascending = counted_ascend rows are.ascending;
    members = counted_by _ _ rows are.members (λ key body passes told. (told.0, told.1, told.2, told.3, search (rules, stays_counted))) (λ key body told.
        let was = was_counted live (schedule_key told.0) (schedule_body told.1) told.4.is_live in
        (ap counts told.2 ∙ was.0, (told.0, told.1, told.2, told.3, record { is_live = was.1; calls = told.4.calls })));
  }

  pub counted_linked : (live : Table) (place : List ℕ) (rows : List Row) → AreLinked live place rows
      → AreLinked (counted_table counts live) place (counted_rows counts rows)
  counted_linked live place rows are = record {
    ascending = counted_ascend rows are.ascending;
    members = counted_by _ _ rows are.members (λ key body passes told. (told.0, told.1, told.2, told.3, search (rules, stays_counted))) (λ key body told.
        let was = was_counted live (association_key told.0) (association_body told.1) told.4.is_live in
        (ap counts told.2 ∙ was.0, (told.0, told.1, told.2, told.3, record { is_live = was.1; here = told.4.here })));
  }

  pub counted_of_uid : (live : Table) (uid : List ℕ) (rows : List Row) → AreOfUid live uid rows
      → AreOfUid (counted_table counts live) uid (counted_rows counts rows)
  counted_of_uid live uid rows are = record {
    ascending = counted_ascend rows are.ascending;
    members = counted_by _ _ rows are.members
        (λ key body passes told. (told.0, told.1, told.2, told.3, stays_counted live key body passes told.4, told.5))
        (λ key body told. let was = was_counted live key body told.4 in (was.0, (told.0, told.1, told.2, told.3, was.1, told.5)));
  }

  counted_are : (live : Table) (rows : List Row) → AreRowsOf live rows → AreRowsOf (counted_table counts live) (counted_rows counts rows)
  counted_are live rows are = record {
    ascending = counted_ascend rows are.ascending;
    members = counted_by _ _ rows are.members (stays_counted live) (was_counted live);
  }

  -- if the bodies of the whole table are well formed, so are the bodies of the restricted table
  pub counted_bodies : (live : Table) → HasGoodBodies live → HasGoodBodies (counted_table counts live)
  counted_bodies live good key body is = good key body (was_counted live key body is).1

  -- if the whole table satisfies `IsOfGoodRows`, so does the restricted table
  pub counted_good : (live : Table) → IsOfGoodRows live → IsOfGoodRows (counted_table counts live)
  counted_good live good = search (rules, counted_are, counted_bodies)
