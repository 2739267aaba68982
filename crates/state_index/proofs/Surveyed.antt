-- Lemmas on surveys: the places that rows or changes name are listed one after another, and the rows and their calls are counted.
use Rattle.cif_laws.proofs.Common.{◌≡◌, ℕ, ◌+◌, ◌≤◌, ◌<◌, ◌^◌, List, [], ◌∷◌, ◌++◌, map, length, ap, sym, subst, inl, inr, ◌⊎◌, Contains, rules}
use Rattle.cif_laws.proofs.Common.{common_steps, append-nil, vec_capacity, arith, length-append, length-map, Contains-append_cases, Contains-append_left}
use Rattle.cif_laws.proofs.Common.{Contains-append_right, columns, Key, AssociationKey, ScheduleKey, association_key, schedule_key, Body, association_body}
use Rattle.cif_laws.proofs.Common.{schedule_body, Op, put_with, bytes_cmp, IsStrictlyAscending}
use Rattle.cif_laws.proofs.lists.Membership.{nil-Contains, Contains-cons, single-Contains}
use Rattle.state_index.specs.NamedPlaces.{call_places, link_places, location_lines}
use Rattle.state_index.specs.declared.index.Index.{Index}
use Rattle.state_index.specs.declared.survey.Survey.{Survey}
use Rattle.state_index.specs.Spots.{Places}
use Rattle.state_index.specs.Rooms.{Item, Includes, HasGrownBy, HasRoomFor, places_in}
use Rattle.state_index.proofs.RoomForRows.{links_few, places_append}

-- what was listed is still listed if the list is the same
pub still_listed : (some names new : List (List ℕ)) → new ≡ names → Includes some names → Includes some new
still_listed some names new same listed place among = subst (λ zs. Contains zs place) (sym same) (listed place among)

-- a survey of no items changes nothing
pub grown_none : (survey : Survey) → HasGrownBy [] survey survey
grown_none = search (rules, nil-Contains)

-- surveying some items and then others is surveying all of them
pub grown_then : (first second : List Item) (old between new : Survey) → HasGrownBy first old between → HasGrownBy second between new
    → HasGrownBy (first ++ second) old new
grown_then first second old between new one two = record {
  kept = λ place among. two.kept place (one.kept place among);
  calls = all call_places one.calls two.calls;
  links = all link_places one.links two.links;
  most_calls = (
      let same = ap length (places_append call_places first second) in
      let both = length-append (places_in call_places first) (places_in call_places second) in
      let before = one.most_calls in
      let after = two.most_calls in
      omega arith
      );
  rows = (
      let both = length-append first second in
      let before = one.rows in
      let after = two.rows in
      omega arith
      );
}
  where
    all : (places : Places) → Includes (places_in places first) between.names.items → Includes (places_in places second) new.names.items
        → Includes (places_in places (first ++ second)) new.names.items
    all places here there place among =
        by (Contains-append_cases (places_in places first) (places_in places second) place
        (subst (λ zs. Contains zs place) (places_append places first second) among))
      where
        by : Contains (places_in places first) place ⊎ Contains (places_in places second) place → Contains new.names.items place
        by (inl early) = two.kept place (here place early)
        by (inr late) = there place late

-- the places of a single item
alone : (places : Places) (item : Item) (names : List (List ℕ)) → Includes (places item.0 item.1) names → Includes (places_in places (item ∷ [])) names
alone = search (rules, nil-Contains)

-- the survey of a single item
pub grown_one : (item : Item) (old new : Survey) → Includes old.names.items new.names.items → Includes (call_places item.0 item.1) new.names.items
    → Includes (link_places item.0 item.1) new.names.items → old.calls + length (call_places item.0 item.1) ≤ new.calls → old.rows + 1 ≤ new.rows
    → HasGrownBy (item ∷ []) old new
grown_one = search (rules, alone, length-append)

-- there are at most as many location records as lines
pub few_locations : (lines : List (List ℕ)) → length (location_lines lines) ≤ length lines
few_locations [] = omega arith
few_locations (line ∷ lines) = grind (common_steps, arith, (few_locations lines))

-- a schedule is surveyed by listing the places of its location records
pub grown_schedule : (key : Key) (body : Body) (schedule : ScheduleKey) (lines : List (List ℕ)) → key ≡ schedule_key schedule → body ≡ schedule_body lines
    → (old new : Survey) → Includes old.names.items new.names.items → Includes (map (columns 3 9) (location_lines lines)) new.names.items
    → old.calls + length lines ≤ new.calls → old.rows + 1 ≤ new.rows → HasGrownBy ((key, put_with body) ∷ []) old new
grown_schedule = search (rules, grown_one, nil-Contains, few_locations, length-map)

-- an association is surveyed by listing its location
pub grown_association : (key : Key) (body : Body) (association : AssociationKey) (line : List ℕ) → key ≡ association_key association
    → body ≡ association_body line → (old new : Survey) → Includes old.names.items new.names.items → Includes (association.location ∷ []) new.names.items
    → old.calls ≤ new.calls → old.rows + 1 ≤ new.rows → HasGrownBy ((key, put_with body) ∷ []) old new
grown_association = search (rules, grown_one, nil-Contains)

-- a row has at most as many calls as its schedule has lines
pub few_calls : (op : Op) (lines : List (List ℕ)) → op ≡ put_with (schedule_body lines) → (key : Key) → length (call_places key op) ≤ length lines
few_calls = search (rules, few_locations, length-map)

-- ---- the places of lines, listed one after another

-- if the next place is listed, it needn't come any more
pub listed_more : (all names new : List (List ℕ)) (place : List ℕ) (rest : List (List ℕ)) → Includes names new → Includes (place ∷ []) new
    → Includes all (names ++ (place ∷ rest)) → Includes all (new ++ rest)
listed_more all names new place rest kept listed told other among = by (Contains-append_cases names (place ∷ rest) other (told other among))
  where
    cases : (place ≡ other) ⊎ Contains rest other → Contains (new ++ rest) other
    cases (inl same) = Contains-append_left new rest other (listed other (single-Contains place other same))
    cases (inr behind) = Contains-append_right new rest other behind

    by : Contains names other ⊎ Contains (place ∷ rest) other → Contains (new ++ rest) other
    by (inl early) = Contains-append_left new rest other (kept other early)
    by (inr late) = cases (Contains-cons place rest other late)

-- once no line is left, all places are listed
pub listed_all : (all names rest : List (List ℕ)) → rest ≡ [] → Includes all (names ++ rest) → Includes all names
listed_all all names rest none told place among =
    subst (λ zs. Contains zs place) (append-nil names) (subst (λ (more : List (List ℕ)). Contains (names ++ more) place) none (told place among))

-- ---- rows whose places are listed already

-- if the places of an item and of other items are listed, the places of the other items are listed
pub known_rest : (places : Places) (item : Item) (items : List Item) (names new : List (List ℕ)) → new ≡ names
    → Includes (places_in places (item ∷ items)) names → Includes (places_in places items) new
known_rest places item items names new same known place among = still_listed _ _ _ same known place
    (Contains-append_right (places item.0 item.1) (places_in places items) place among)

-- an item whose places are listed is surveyed by counting it and its calls
pub grown_known : (item : Item) (items : List Item) (old new : Survey) → Includes (places_in call_places (item ∷ items)) old.names.items
    → Includes (places_in link_places (item ∷ items)) old.names.items → new.names.items ≡ old.names.items → (most : ℕ)
    → length (call_places item.0 item.1) ≤ most → new.calls ≡ old.calls + most → new.rows ≡ old.rows + 1 → HasGrownBy (item ∷ []) old new
grown_known item items old new calls links same most few counted row = grown_one _ _ _ (still_listed _ _ _ same (λ place among. among))
    (still_listed _ _ _ same (λ place among. calls place (Contains-append_left (call_places item.0 item.1) (places_in call_places items) place among)))
    (still_listed _ _ _ same (λ place among. links place (Contains-append_left (link_places item.0 item.1) (places_in link_places items) place among)))
    (omega arith) (omega arith)

-- ---- the memory for the index of the surveyed rows

-- the places of a survey in order, and memory for its calls and rows, are enough for the index of the surveyed items
pub room_of_survey : (items : List Item) (old survey : Survey) → HasGrownBy items old survey → (index : Index)
    → IsStrictlyAscending bytes_cmp index.places.items
    → Includes survey.names.items index.places.items → length index.places.items < 2 ^ 32 → survey.rows < 2 ^ 32
    → survey.calls ≤ vec_capacity index.calls → survey.rows ≤ vec_capacity index.links → HasRoomFor items index
room_of_survey = search (rules, links_few)
