-- The live rows at a place, found by a walk over all rows.
use Rattle.cif_laws.proofs.Common.{◌≡◌, ℕ, List, [], ◌∷◌, length, refl, sym, subst, Some, Bool, true, false, Contains, arith, rules, filter, bytes_eq-Decides}
use Rattle.cif_laws.proofs.Common.{Key, association_key, schedule_key, AssociationKey, ScheduleKey, Body, association_body, schedule_body, Entry, State}
use Rattle.cif_laws.proofs.Common.{IsValid, live_table, Row, AreInKeyOrder}
use Rattle.cif_laws.proofs.lists.FilteredMembers.{filter_back, filter_forth}
use Rattle.state_laws.specs.Index.{IsCalling, IsLinked, AreCalling, AreLinked}
use Rattle.state_laws.proofs.indexes.CallsTest.{calls_test}
use Rattle.state_index.specs.Counts.{IsCallingCount}
use Rattle.docker_state.specs.Live.{live_rows}
use Rattle.docker_state.specs.PlaceRows.{is_call, is_link, is_here, rows_here}
use Rattle.cif_laws.proofs.lists.Later.{later_filter}
use Rattle.cif_laws.proofs.orders.Ascending.{ascending_of, later_of}
use Rattle.docker_state.proofs.LiveTable.{ascends, live_walks}

-- whether a row is at the place: an association there if `links` is true, and otherwise a schedule that calls there
abbrev passes : Bool → List ℕ → Row → Bool
passes links place row = is_here links place row.0 row.1

-- the rows at a place are the live rows for which `passes` is true
pub rows_here_are : (links : Bool) (place : List ℕ) (rows : List (Key × Entry)) → rows_here links place rows ≡ filter (passes links place) (live_rows rows)
rows_here_are links place [] = refl
rows_here_are links place (row ∷ rows) = grind (arith, (rows_here_are links place rows))

-- Says that a key and its body belong to a live schedule that calls at the place.
abbrev IsCaller : State → List ℕ → Key → Body → Type 0
IsCaller state place key body = (schedule : ScheduleKey) × (lines : List (List ℕ)) × (key ≡ schedule_key schedule) × (body ≡ schedule_body lines)
    × IsCalling (live_table state) place schedule lines

-- Says that a key and its body belong to a live association at the place.
abbrev IsPartner : State → List ℕ → Key → Body → Type 0
IsPartner state place key body = (association : AssociationKey) × (line : List ℕ) × (key ≡ association_key association) × (body ≡ association_body line)
    × IsLinked (live_table state) place association line

false_true : false ≡ true → ⊥
false_true h = cc

module _ (state : State) (valid : IsValid state) (place : List ℕ) where
  live_there : (links : Bool) (key : Key) (body : Body) → Contains (filter (passes links place) (live_rows state.entries)) (key, body)
      → (live_table state key ≡ Some body) × (is_here links place key body ≡ true)
  live_there links key body among =
      let found = filter_back (passes links place) (live_rows state.entries) (key, body) among in
      ((live_walks state valid (live_rows state.entries) refl key body).0 found.0, found.1)

  there_live : (links : Bool) (key : Key) (body : Body) → live_table state key ≡ Some body → is_here links place key body ≡ true
      → Contains (filter (passes links place) (live_rows state.entries)) (key, body)
  there_live links key body live here = filter_forth _ _ _ ((live_walks _ valid _ refl _ _).1 live) here

  called : (key : Key) (body : Body) → live_table state key ≡ Some body → is_call place key body ≡ true → IsCaller state place key body
  called = search (rules, calls_test, false_true)

  calls : (key : Key) (body : Body) → IsCaller state place key body → (live_table state key ≡ Some body) × (is_call place key body ≡ true)
  calls = search (rules, calls_test)

  linked : (key : Key) (body : Body) → live_table state key ≡ Some body → is_link place key body ≡ true → IsPartner state place key body
  linked = search (rules, bytes_eq-Decides, false_true)

  links : (key : Key) (body : Body) → IsPartner state place key body → (live_table state key ≡ Some body) × (is_link place key body ≡ true)
  links = search (rules, bytes_eq-Decides)

  ascending_there : (links : Bool) → AreInKeyOrder (filter (passes links place) (live_rows state.entries))
  ascending_there links = ascending_of _ _ (later_filter _ (passes links place) _ (later_of _ _ (ascends state.entries valid.entries.1)))

  -- if `links` is false, the rows that the walk finds are exactly the live schedules that call at
  -- the place
  pub calling_sifted : AreCalling (live_table state) place (rows_here false place state.entries)
  calling_sifted = subst (AreCalling (live_table state) place) (sym (rows_here_are false place state.entries)) (record {
    ascending = ascending_there false;
    members = λ key body. (
      λ among. let there = live_there false key body among in called key body there.0 there.1,
      λ caller. let there = calls key body caller in there_live false key body there.0 there.1,
    );
  })

  -- if `links` is true, the rows that the walk finds are exactly the live associations at the place
  pub linked_sifted : AreLinked (live_table state) place (rows_here true place state.entries)
  linked_sifted = subst (AreLinked (live_table state) place) (sym (rows_here_are true place state.entries)) (record {
    ascending = ascending_there true;
    members = λ key body. (
      λ among. let there = live_there true key body among in linked key body there.0 there.1,
      λ partner. let there = links key body partner in there_live true key body there.0 there.1,
    );
  })

  -- if `links` is false, the number of rows that the walk finds is the number of live schedules
  -- that call at the place
  pub calls_counted : (count : ℕ) → count ≡ length (rows_here false place state.entries) → IsCallingCount (live_table state) place count
  calls_counted count is = (rows_here false place state.entries, calling_sifted, sym is)
