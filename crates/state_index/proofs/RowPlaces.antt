-- The places of a row: where a schedule calls, or where an association links two trains.
use Rattle.cif_laws.proofs.Common.{◌≡◌, ℕ, List, [], ◌∷◌, map, refl, subst, ◌⊎◌, true, false, Some, None, Contains, rules, filter, origin_location}
use Rattle.cif_laws.proofs.Common.{intermediate_location, terminating_location, kind_of, HasKind, columns, is_location, Key, association_key, schedule_key}
use Rattle.cif_laws.proofs.Common.{AssociationKey, ScheduleKey, Body, association_body, schedule_body, Op, put_with, body_of, CallsAt}
use Rattle.cif_laws.proofs.lists.Membership.{nil-Contains, Contains-map, map-Contains, single-Contains}
use Rattle.cif_laws.proofs.lists.FilteredMembers.{filter_back, filter_forth}
use Rattle.state_index.specs.NamedPlaces.{call_places, link_places, location_lines}

none_some : (body : Body) → Some body ≡ None → ⊥
none_some body h = cc

-- Says that a line is a location record (LO, LI or LT).
abbrev IsLocation : List ℕ → Type 0
IsLocation line = HasKind origin_location line ⊎ HasKind intermediate_location line ⊎ HasKind terminating_location line

location_back : (line : List ℕ) → is_location (kind_of line) ≡ true → IsLocation line
location_back = search rules

location_forth : (line : List ℕ) → IsLocation line → is_location (kind_of line) ≡ true
location_forth = search rules

-- Says that a row puts a schedule that calls at this place.
abbrev pub Calls : Key → Op → List ℕ → Type 0
Calls key op place = (schedule : ScheduleKey) × (lines : List (List ℕ)) × (key ≡ schedule_key schedule) × (op ≡ put_with (schedule_body lines))
    × CallsAt place lines

calls_in : (schedule : ScheduleKey) (lines : List (List ℕ)) (place : List ℕ)
    → Contains (call_places (schedule_key schedule) (put_with (schedule_body lines))) place → CallsAt place lines
calls_in schedule lines place among =
    let found = Contains-map (columns 3 9) (filter (λ line. is_location (kind_of line)) lines) place among in
    let passed = filter_back (λ line. is_location (kind_of line)) lines found.0 found.1 in
    record { line = found.0; among = passed.0; kind = location_back found.0 passed.1; here = found.2 }

pub call_back : (key : Key) (op : Op) (place : List ℕ) → Contains (call_places key op) place → Calls key op place
call_back (schedule_key key) (put_with (schedule_body lines)) place among = (key, lines, refl, refl, calls_in key lines place among)
call_back _ _ place among = absurd (nil-Contains place among)

pub call_forth : (schedule : ScheduleKey) (lines : List (List ℕ)) (place : List ℕ) → CallsAt place lines
    → Contains (call_places (schedule_key schedule) (put_with (schedule_body lines))) place
call_forth schedule lines place calls = subst (Contains (call_places (schedule_key schedule) (put_with (schedule_body lines)))) calls.here
    (map-Contains (columns 3 9) _ calls.line (filter_forth _ lines _ calls.among (location_forth calls.line calls.kind)))

-- Says that a row puts an association whose location is this place.
abbrev pub IsThere : Key → Op → List ℕ → Type 0
IsThere key op place = (association : AssociationKey) × (line : List ℕ) × (key ≡ association_key association) × (op ≡ put_with (association_body line)) ×
    (association.location ≡ place)

pub link_back : (key : Key) (op : Op) (place : List ℕ) → Contains (link_places key op) place → IsThere key op place
link_back = search (rules, nil-Contains)

pub link_forth : (key : AssociationKey) (line : List ℕ) (place : List ℕ) → key.location ≡ place
    → Contains (link_places (association_key key) (put_with (association_body line))) place
link_forth key line place here = single-Contains key.location place here

-- a row whose op puts no body has no calls
pub no_calls : (key : Key) (op : Op) → body_of op ≡ None → call_places key op ≡ []
no_calls = search (rules, none_some)

-- a row whose op puts no body has no association
pub no_links : (key : Key) (op : Op) → body_of op ≡ None → link_places key op ≡ []
no_links = search (rules, none_some)

-- if the first line is a location record, its TIPLOC is the first of the lines' places
pub location_first : (rest behind : List (List ℕ)) (line : List ℕ) → rest ≡ line ∷ behind → is_location (kind_of line) ≡ true
    → map (columns 3 9) (location_lines rest) ≡ columns 3 9 line ∷ map (columns 3 9) (location_lines behind)
location_first = search rules

-- if the first line isn't a location record, the lines' places are the places of the lines after it
pub location_other : (rest behind : List (List ℕ)) (line : List ℕ) → rest ≡ line ∷ behind → is_location (kind_of line) ≡ false
    → map (columns 3 9) (location_lines rest) ≡ map (columns 3 9) (location_lines behind)
location_other = search rules
