-- Lemmas on the test of whether a schedule calls at a place, and on the indexes made from the rows
-- of a table.
use Rattle.cif_laws.proofs.Common.{◌≡◌, ℕ, List, [], ◌∷◌, refl, ap, sym, ◌∙◌, subst, Some, Bool, true, Contains, arith, common_steps, rules, ◌↔◌, filter}
use Rattle.cif_laws.proofs.Common.{flat_map, list_any, bytes_eq-Decides, kind_of, columns, is_location, CallsAt, calls_at, Key, association_key, schedule_key}
use Rattle.cif_laws.proofs.Common.{AssociationKey, ScheduleKey, Body, association_body, schedule_body, IsStrictlyAscending, Table, Row, AreRowsOf}
use Rattle.state_laws.specs.Index.{CallingRow, LinkedRow, calling_cmp, linked_cmp, calls_of, links_of, IsCallingIndex, IsLinkedIndex}
use Rattle.cif_laws.proofs.lists.Membership.{cons-Contains, cons-Contains-first, nil-Contains, Contains-flat_map}
use Rattle.cif_laws.proofs.lists.Membership.{flat_map-Contains, single-Contains, Contains-map, map-Contains}
use Rattle.cif_laws.proofs.lists.BoolsAndOptions.{both, either}
use Rattle.cif_laws.proofs.lists.FilteredMembers.{filter_back, filter_forth}
use Rattle.cif_laws.proofs.records.Locations.{IsLocation}

-- if `list_any` is true for a test, some member passes the test
pub any_back : {A : Type 0} (test : A → Bool) (xs : List A) → list_any test xs ≡ true → (x : A) × Contains xs x × (test x ≡ true)
any_back test [] is = cc
any_back test (x ∷ xs) is = grind (arith, either, cons-Contains-first, cons-Contains, (any_back test xs))

-- if some member passes a test, `list_any` is true for the test
pub any_forth : {A : Type 0} (test : A → Bool) (xs : List A) (x : A) → Contains xs x → test x ≡ true → list_any test xs ≡ true
any_forth = grind (common_steps, arith, nil-Contains)

-- a record whose kind passes the test `is_location` is a location record
location_back : (line : List ℕ) → is_location (kind_of line) ≡ true → IsLocation line
location_back = search rules

location_forth : (line : List ℕ) → IsLocation line → is_location (kind_of line) ≡ true
location_forth = search rules

-- the test `calls_at` passes if and only if the schedule calls at the place
pub calls_test : (place : List ℕ) (lines : List (List ℕ)) → (calls_at place lines ≡ true) ↔ CallsAt place lines
calls_test = grind (common_steps, arith, any_back, both, location_back, bytes_eq-Decides, any_forth, location_forth)

-- a list without members is empty
pub no_member : {A : Type 0} (xs : List A) → ((x : A) → ¬ Contains xs x) → xs ≡ []
no_member [] none = refl
no_member (x ∷ xs) none = absurd (none x (cons-Contains-first x xs))

-- ---- the index of a table consists of the index rows for all rows of the table

calls_row_back : (key : Key) (body : Body) (place : List ℕ) (schedule : ScheduleKey) → Contains (calls_of key body) (place, schedule)
    → (lines : List (List ℕ)) × (key ≡ schedule_key schedule) × (body ≡ schedule_body lines) × CallsAt place lines
calls_row_back (schedule_key key) (schedule_body lines) place schedule among =
    let found = Contains-map (λ (line : List ℕ). (columns 3 9 line, key)) (filter (λ line. is_location (kind_of line)) lines) (place, schedule) among in
    let passed = filter_back (λ line. is_location (kind_of line)) lines found.0 found.1 in
    let here : columns 3 9 found.0 ≡ place = ap (λ (r : CallingRow). r.0) found.2 in
    let same : key ≡ schedule = ap (λ (r : CallingRow). r.1) found.2 in
    (lines, ap schedule_key same, refl, record { line = found.0; among = passed.0; kind = location_back found.0 passed.1; here = here })
calls_row_back _ _ place schedule among = absurd (nil-Contains (place, schedule) among)

calls_row_forth : (schedule : ScheduleKey) (lines : List (List ℕ)) (place : List ℕ) → CallsAt place lines
    → Contains (calls_of (schedule_key schedule) (schedule_body lines)) (place, schedule)
calls_row_forth schedule lines place calls = subst (Contains (calls_of (schedule_key schedule) (schedule_body lines))) (λ i. (calls.here i, schedule))
    (map-Contains (λ (line : List ℕ). (columns 3 9 line, schedule)) _ calls.line (filter_forth _ lines _ calls.among (location_forth calls.line calls.kind)))

links_row_back : (key : Key) (body : Body) (place : List ℕ) (link : AssociationKey) → Contains (links_of key body) (place, link)
    → (line : List ℕ) × (key ≡ association_key link) × (body ≡ association_body line) × (link.location ≡ place)
links_row_back = search (rules, nil-Contains)

-- if a list is sorted, has no duplicates, and has exactly the index rows of calls for all rows of a
-- table, it is the table's index of calls
pub calling_from_rows : (live : Table) (rows : List Row) (index : List CallingRow) → AreRowsOf live rows → IsStrictlyAscending calling_cmp index
    → ((row : CallingRow) → Contains index row ↔ Contains (flat_map (λ (r : Row). calls_of r.0 r.1) rows) row) → IsCallingIndex live index
calling_from_rows live rows index are up same = record {
  ascending = up;
  members = λ place key. (
    λ among.
        let found = Contains-flat_map _ _ _ ((same (place, key)).0 among) in
        let told = calls_row_back _ _ _ _ found.2 in
        let there = (are.members found.0.0 found.0.1).0 found.1 in
        (told.0, record { is_live = ap live (sym told.1) ∙ there ∙ ap Some told.2; calls = told.3 }),
    λ made. (same (place, key)).1 (flat_map-Contains _ _ _ _
        ((are.members (schedule_key key) (schedule_body made.0)).1 made.1.is_live) (calls_row_forth _ _ _ made.1.calls)),
  );
}

-- if a list is sorted, has no duplicates, and has exactly the index rows of associations for all
-- rows of a table, it is the table's index of associations
pub linked_from_rows : (live : Table) (rows : List Row) (index : List LinkedRow) → AreRowsOf live rows → IsStrictlyAscending linked_cmp index
    → ((row : LinkedRow) → Contains index row ↔ Contains (flat_map (λ (r : Row). links_of r.0 r.1) rows) row) → IsLinkedIndex live index
linked_from_rows live rows index are up same = record {
  ascending = up;
  members = λ place key. (
    λ among.
        let found = Contains-flat_map _ _ _ ((same (place, key)).0 among) in
        let told = links_row_back _ _ _ _ found.2 in
        let there = (are.members found.0.0 found.0.1).0 found.1 in
        (told.0, record { is_live = ap live (sym told.1) ∙ there ∙ ap Some told.2; here = told.3 }),
    λ made. (same (place, key)).1 (flat_map-Contains _ _ _ _ ((are.members (association_key key) (association_body made.0)).1 made.1.is_live)
        (single-Contains _ _ (λ i. (made.1.here i, key)))),
  );
}
