-- The events of a schedule have different numbers, and the record of each event is a location
-- record.
use Rattle.cif_laws.proofs.Common.{◌≡◌, ℕ, suc, ◌+◌, ◌<◌, ◌≤◌, List, [], ◌∷◌, ◌++◌, length, get_or, refl, rules, ap, sym, subst, inl, inr, ◌⊎◌, Some, Contains}
use Rattle.cif_laws.proofs.Common.{map, arith, Option, Contains-append_cases, Kind, origin_location, intermediate_location, terminating_location, kind_of}
use Rattle.cif_laws.proofs.Common.{columns, scheduled_time, Occasion, arrival, pass, departure, timed, times_by_kind, times_of, CallsAt, Event, events_of}
use Rattle.cif_laws.proofs.Common.{event_line}
use Rattle.std.specs.List.{enumerate_from}
use Rattle.docker_model.specs.docker.Event.{placed_times}
use Rattle.cif_laws.proofs.lists.Membership.{Contains-cons, nil-Contains, Contains-map, Contains-flat_map, each_member}
use Rattle.cif_laws.proofs.lists.Later.{AllLater, later_map, one_before}
use Rattle.cif_laws.proofs.records.Locations.{IsLocation}

abbrev Placed : Type 0
Placed = ℕ × (Occasion × ℕ)

abbrev as_event : ℕ × Placed → Event
as_event counted = record { number = counted.0; place = counted.1.0; occasion = counted.1.1.0; time = counted.1.1.1 }

-- ---- the numbers of the events are strictly increasing

from_here : {A : Type 0} (n : ℕ) (xs : List A) (z : ℕ × A) → Contains (enumerate_from n xs) z → n ≤ z.0
from_here n [] z among = absurd (nil-Contains z among)
from_here n (x ∷ xs) z among = grind (arith, (from_here (n + 1) xs z))

counts_up : {A : Type 0} (n : ℕ) (xs : List A) → AllLater (λ (a b : ℕ × A). a.0 < b.0) (enumerate_from n xs)
counts_up n [] = tt
counts_up n (x ∷ xs) = (
  each_member (λ z. n < z.0) (enumerate_from (n + 1) xs) (λ z among. let low = from_here (n + 1) xs z among in omega arith),
  counts_up (n + 1) xs,
)

-- the numbers of the events are strictly increasing
pub numbers_ascend : (lines : List (List ℕ)) → AllLater (λ (a b : Event). a.number < b.number) (events_of lines)
numbers_ascend lines = later_map (λ (a b : Event). a.number < b.number) as_event (enumerate_from 1 (placed_times lines)) (counts_up 1 (placed_times lines))

-- two events with the same number are equal
pub one_event : (lines : List (List ℕ)) (a b : Event) → Contains (events_of lines) a → Contains (events_of lines) b → a.number ≡ b.number → a ≡ b
one_event lines a b in_a in_b same = elim (one_before (λ (x y : Event). x.number < y.number) (events_of lines) a b (numbers_ascend lines) in_a in_b) [
  | inl e ↦ e
  | inr (inl below) ↦ absurd (omega arith)
  | inr (inr above) ↦ absurd (omega arith)
]

-- ---- the record of each event contains the event's occasion and time

-- for each member of `enumerate_from n xs` there is an index `k`. The member is the pair of `n + k`
-- and the element of `xs` at index `k`
stands_at : {A : Type 0} (n : ℕ) (xs : List A) (z : ℕ × A) (d : A) → Contains (enumerate_from n xs) z → (k : ℕ) × (z.0 ≡ n + k) × (k < length xs)
    × (get_or xs k d ≡ z.1)
stands_at n [] z d among = absurd (nil-Contains z among)
stands_at n (x ∷ xs) z d among = elim (Contains-cons (n, x) (enumerate_from (n + 1) xs) z among) [
  | inl e ↦ (0, (let same : n ≡ z.0 = ap (λ (v : ℕ × _). v.0) e in omega arith), omega arith, ap (λ (v : ℕ × _). v.1) e)
  | inr inside ↦ let found = (stands_at (n + 1) xs z d) inside in (suc found.0, (let at = found.1 in omega arith), (let low = found.2 in omega arith), found.3)
]

-- the event's record is a record of the schedule, and contains the event's occasion and time
pub record IsTimeOf (lines : List (List ℕ)) (event : Event) : Type 0 where
  pub among : Contains lines (event_line lines event)
  pub is_time : Contains (times_of (event_line lines event)) (event.occasion, event.time)

-- if the record of an event contains the event's occasion and time, `IsTimeOf` holds
time_of_line : (lines : List (List ℕ)) (event : Event) (k : ℕ) (line : List ℕ) → k < length lines → get_or lines k [] ≡ line → event.place ≡ k
    → Contains (times_of line) (event.occasion, event.time) → IsTimeOf lines event
time_of_line = search rules

-- each time in `placed_times` comes with the index of a record, and is a time of that record
time_of_placed : (lines : List (List ℕ)) (placed : Placed) → Contains (placed_times lines) placed
    → (line : List ℕ) × (placed.0 < length lines) × (get_or lines placed.0 [] ≡ line) × Contains (times_of line) placed.1
time_of_placed lines placed among =
    let piece : (piece : ℕ × List ℕ) × Contains (enumerate_from 0 lines) piece
    × Contains (map (λ (time : Occasion × ℕ). (piece.0, time)) (times_of piece.1)) placed = Contains-flat_map _ _ _ among in
    let stands = stands_at 0 lines piece.0 [] piece.1 in
    let time = Contains-map (λ (time : Occasion × ℕ). (piece.0.0, time)) (times_of piece.0.1) placed piece.2 in
    at piece.0.0 piece.0.1 stands.0 stands.1 stands.2 stands.3 time.0 time.1 time.2
  where
    at : (n : ℕ) (line : List ℕ) (k : ℕ) → n ≡ 0 + k → k < length lines → get_or lines k [] ≡ line → (time : Occasion × ℕ) → Contains (times_of line) time
        → (n, time) ≡ placed → (line : List ℕ) × (placed.0 < length lines) × (get_or lines placed.0 [] ≡ line) × Contains (times_of line) placed.1
    at n line k place low is time inside same = search rules

-- the record of each event contains the event's occasion and time
pub at_a_line : (lines : List (List ℕ)) (event : Event) → Contains (events_of lines) event → IsTimeOf lines event
at_a_line lines event among =
    let counted = Contains-map as_event (enumerate_from 1 (placed_times lines)) event among in
    let stands = stands_at 1 (placed_times lines) counted.0 counted.0.1 counted.1 in
    let inside : Contains (placed_times lines) counted.0.1 = (stands.0, stands.2, stands.3) in
    let from = time_of_placed lines counted.0.1 inside in
    time_of_line lines event counted.0.1.0 from.0 from.1 from.2 (sym (ap (λ (e : Event). e.place) counted.2))
    (subst (Contains (times_of from.0)) (ap (λ (e : Event). (e.occasion, e.time)) counted.2) from.3)

-- ---- each event is an arrival, a pass or a departure, and its record is a location record

-- the occasion is an arrival, a pass or a departure
abbrev pub IsOfTrain : Occasion → Type 0
IsOfTrain occasion = (occasion ≡ arrival) ⊎ (occasion ≡ pass) ⊎ (occasion ≡ departure)

timed_is : (occasion : Occasion) (time : Option ℕ) (pair : Occasion × ℕ) → Contains (timed occasion time) pair → pair.0 ≡ occasion
timed_is = search (rules, nil-Contains)

-- a record with a time is a location record, and the occasion of the time is an arrival, a pass or
-- a departure
pub timed_there : (line : List ℕ) (pair : Occasion × ℕ) → Contains (times_of line) pair → IsLocation line × IsOfTrain pair.0
timed_there line pair among = by (kind_of line) refl among
  where
    by : (kind : Option Kind) → kind_of line ≡ kind → Contains (times_by_kind kind line) pair → IsLocation line × IsOfTrain pair.0
    by (Some origin_location) h inside = (inl h, inr (inr (timed_is departure (scheduled_time (columns 11 15 line)) pair inside)))
    by (Some terminating_location) h inside = (inr (inr h), inl (timed_is arrival (scheduled_time (columns 11 15 line)) pair inside))
    by (Some intermediate_location) h inside =
        let first : List (Occasion × ℕ) = timed arrival (scheduled_time (columns 11 15 line)) in
        let second : List (Occasion × ℕ) = timed pass (scheduled_time (columns 21 25 line)) in
        let third : List (Occasion × ℕ) = timed departure (scheduled_time (columns 16 20 line)) in (
          inr (inl h),
          elim (Contains-append_cases (first ++ second) third pair inside) [
            | inl here ↦ elim (Contains-append_cases first second pair here) [
              | inl here ↦ inl (timed_is arrival (scheduled_time (columns 11 15 line)) pair here)
              | inr here ↦ inr (inl (timed_is pass (scheduled_time (columns 21 25 line)) pair here))
            ]
            | inr here ↦ inr (inr (timed_is departure (scheduled_time (columns 16 20 line)) pair here))
          ],
        )
    by kind h inside = absurd (nil-Contains pair inside)

-- an event is an arrival, a pass or a departure
pub event_occasion : (lines : List (List ℕ)) (event : Event) → Contains (events_of lines) event → IsOfTrain event.occasion
event_occasion lines event among = (timed_there (event_line lines event) (event.occasion, event.time) (at_a_line lines event among).is_time).1

-- if a schedule has an event at a place, it calls at that place
pub event_calls : (lines : List (List ℕ)) (event : Event) (place : List ℕ) → Contains (events_of lines) event → columns 3 9 (event_line lines event) ≡ place
    → CallsAt place lines
event_calls lines event place among here =
    let at = at_a_line lines event among in
    record {
      line = event_line lines event;
      among = at.among;
      kind = (timed_there (event_line lines event) (event.occasion, event.time) at.is_time).0;
      here = here;
    }
