-- The events of a schedule can be computed by a walk over its records. The walk keeps the number of
-- falls and the last change en route. A fall is a time that is earlier than the time before it.
use Rattle.cif_laws.proofs.Common.{◌≡◌, ℕ, zero, suc, ◌+◌, ◌<◌, ◌≤◌, cond, List, [], ◌∷◌, ◌++◌, map, length, get_or, rules, refl, ap, sym, ◌∙◌, subst, arith}
use Rattle.cif_laws.proofs.Common.{Contains, Some, append_assoc, append-nil, length-append, Option, ◌↔◌, nat_lt, codes, flat_map, map-append, length-map}
use Rattle.cif_laws.proofs.Common.{filter-append, flat_map-append, take-append_seam, take-append-add, get_or-append_seam, Occasion, arrival, times_of}
use Rattle.cif_laws.proofs.Common.{times_along, fall_count, first_record, Event, events_of, falls_to, event_line, event_identity, changed_identity}
use Rattle.cif_laws.proofs.Common.{has_identity}
use Rattle.std.specs.List.{enumerate_from, last_or}
use Rattle.std.proofs.lemmas.List.{get_or-map}
use Rattle.std.proofs.lemmas.List.FromFn.{length-enumerate_from, get_or-enumerate_from}
use Rattle.std.proofs.lemmas.List.Elements.{Contains-get_or}
use Rattle.docker_model.specs.docker.Event.{placed_times}
use Rattle.docker_laws.specs.EventWalk.{events_here, events_from, fall_at, last_time, last_change}

abbrev Placed : Type 0
Placed = ℕ × (Occasion × ℕ)

abbrev as_event : ℕ × Placed → Event
as_event counted = record { number = counted.0; place = counted.1.0; occasion = counted.1.1.0; time = counted.1.1.1 }

abbrev times_at : ℕ × List ℕ → List Placed
times_at placed = map (λ time. (placed.0, time)) (times_of placed.1)

-- ---- the walk computes the events in order

numbered_append : {A : Type 0} (n : ℕ) (xs ys : List A) → enumerate_from n (xs ++ ys) ≡ enumerate_from n xs ++ enumerate_from (n + length xs) ys
numbered_append n [] ys = (let e : n ≡ n + 0 = omega arith in ap (λ k. enumerate_from k ys) e)
numbered_append n (x ∷ xs) ys =
    let e : n + 1 + length xs ≡ n + suc (length xs) = omega arith in
    ap (λ rest. (n, x) ∷ rest) (numbered_append (n + 1) xs ys ∙ ap (λ k. enumerate_from (n + 1) xs ++ enumerate_from k ys) e)

here_is : (n place : ℕ) (times : List (Occasion × ℕ)) → map as_event (enumerate_from n (map (λ time. (place, time)) times)) ≡ events_here n place times
here_is n place [] = refl
here_is n place (time ∷ times) = ap (λ rest. as_event (n, (place, time)) ∷ rest) (here_is (n + 1) place times)

from_is : (n place : ℕ) (lines : List (List ℕ)) → map as_event (enumerate_from n (flat_map times_at (enumerate_from place lines))) ≡ events_from n place lines
from_is n place [] = refl
from_is n place (line ∷ lines) =
    let long : length (map (λ (time : Occasion × ℕ). (place, time)) (times_of line)) ≡ length (times_of line) = search (rules, length-map) in
    ap (map as_event) (numbered_append n (times_at (place, line)) (flat_map times_at (enumerate_from (place + 1) lines)))
    ∙ map-append as_event (enumerate_from n (times_at (place, line))) (enumerate_from (n + length (times_at (place, line)))
    (flat_map times_at (enumerate_from (place + 1) lines)))
    ∙ (λ i. here_is n place (times_of line) i ++ (ap (λ k. map as_event (enumerate_from (n + k) (flat_map times_at (enumerate_from (place + 1) lines)))) long
    ∙ from_is (n + length (times_of line)) (place + 1) lines) i)

-- the events of a schedule equal the events that the walk computes
pub events_walked : (lines : List (List ℕ)) → events_of lines ≡ events_from 1 0 lines
events_walked lines = from_is 1 0 lines

-- ---- how often a schedule passes midnight can be computed time by time

-- a fall is a time that is earlier than the time before it. Appending a time adds one fall if the
-- time is earlier than the last time, and otherwise leaves the number of falls unchanged
pub falls_more : (times : List ℕ) (time : ℕ) → fall_count (times ++ time ∷ []) ≡ fall_count times + fall_at (last_time times) time
falls_more [] time = refl
falls_more (first ∷ []) time = (let e : cond (nat_lt time first) 1 0 + 0 ≡ 0 + cond (nat_lt time first) 1 0 = omega arith in e)
falls_more (first ∷ second ∷ times) time = let rest = falls_more (second ∷ times) time in omega arith

-- the number of falls up to an event depends only on the event's time and the times before it. A
-- fall is a time that is earlier than the time before it
pub falls_here : (lines : List (List ℕ)) (before later : List ℕ) (time : ℕ) (number : ℕ) → times_along lines ≡ (before ++ time ∷ []) ++ later
    → number ≡ length before + 1
    → falls_to lines number ≡ fall_count before + fall_at (last_time before) time
falls_here = search (rules, falls_more, append_assoc, take-append-add)

-- the times of a schedule are the times of the records before `line`, then the times of `line`, and
-- then the times of the records after `line`
pub times_split : (front : List (List ℕ)) (line : List ℕ) (rest : List (List ℕ))
    → times_along (front ++ line ∷ rest) ≡ times_along front ++ (map (λ (time : Occasion × ℕ). time.1) (times_of line) ++ times_along rest)
times_split = search (rules, flat_map-append, map-append)

-- ---- the walk computes the record and the train identity of an event

-- if the index of an event's record is the number of records before `line`, the event's record is
-- `line`
pub line_here : (front : List (List ℕ)) (line : List ℕ) (rest : List (List ℕ)) (event : Event) → event.place ≡ length front
    → event_line (front ++ line ∷ rest) event ≡ line
line_here front line rest event is = ap (λ n. get_or (front ++ line ∷ rest) n []) is ∙ get_or-append_seam front line rest []

-- the train identity at an event can be computed from the last change en route before the event's
-- record
pub identity_here : (front rest : List (List ℕ)) (event : Event) → event.place ≡ length front → event_identity (front ++ rest) event ≡ changed_identity
    (last_change front) (first_record (front ++ rest))
identity_here = search (rules, take-append_seam)

-- an element that is appended to a list is the last element of the longer list
last_behind : {A : Type 0} (o : Option A) (xs : List A) (x : A) → last_or o (xs ++ x ∷ []) ≡ Some x
last_behind o [] x = refl
last_behind o (y ∷ xs) x = last_behind (Some y) xs x

-- appending a CR record to a list of records makes this record the last change en route. Appending
-- any other record leaves the last change en route unchanged
pub change_more : (front : List (List ℕ)) (line : List ℕ) → last_change (front ++ line ∷ []) ≡ cond (has_identity (codes "CR") line) (Some line)
    (last_change front)
change_more = search (rules, filter-append, last_behind, append-nil)

-- ---- the events are numbered from 1 to the number of times

-- the number of a schedule's events equals the number of its times
pub as_many : (lines : List (List ℕ)) → length (events_of lines) ≡ length (times_along lines)
as_many lines =
    length-map (enumerate_from 1 (placed_times lines)) as_event ∙ length-enumerate_from 1 (placed_times lines)
    ∙ placed_long 0 lines
    ∙ sym (length-map (flat_map times_of lines) (λ (time : Occasion × ℕ). time.1))
  where
    placed_long : (n : ℕ) (ls : List (List ℕ)) → length (flat_map times_at (enumerate_from n ls)) ≡ length (flat_map times_of ls)
    placed_long n [] = refl
    placed_long n (l ∷ ls) =
        length-append (times_at (n, l)) (flat_map times_at (enumerate_from (n + 1) ls))
        ∙ (λ i. length-map {B = Placed} (times_of l) (λ (time : Occasion × ℕ). (n, time)) i + placed_long (n + 1) ls i)
        ∙ sym (length-append (times_of l) (flat_map times_of ls))

-- the numbers of a schedule's events are exactly the numbers from 1 to the number of its times
pub number_there : (lines : List (List ℕ)) (number : ℕ) → ((event : Event) × Contains (events_of lines) event × (event.number ≡ number))
    ↔ ((1 ≤ number) × (number ≤ length (times_along lines)))
number_there lines number = (forth, back)
  where
    some : ℕ × Placed
    some = (0, (0, (arrival, 0)))

    number_at : (k : ℕ) (d : Event) → k < length (events_of lines) → (get_or (events_of lines) k d).number ≡ 1 + k
    number_at k d low =
        let counted : k < length (enumerate_from 1 (placed_times lines)) = search (rules, length-map, as_event) in
        ap (λ (e : Event). e.number) (get_or-map as_event (enumerate_from 1 (placed_times lines)) k some d counted)
        ∙ ap (λ (c : ℕ × Placed). c.0) (get_or-enumerate_from 1 (placed_times lines) k some
        (subst (λ n. k < n) (length-enumerate_from 1 (placed_times lines)) counted))

    forth : (event : Event) × Contains (events_of lines) event × (event.number ≡ number) → (1 ≤ number) × (number ≤ length (times_along lines))
    forth (event, among, is) =
        let at : event.number ≡ 1 + among.0 = ap (λ (e : Event). e.number) (sym among.2) ∙ number_at among.0 event among.1 in
        let low = among.1 in
        let whole = as_many lines in
        (omega arith, omega arith)

    back : (1 ≤ number) × (number ≤ length (times_along lines)) → (event : Event) × Contains (events_of lines) event × (event.number ≡ number)
    back within = (elim number as (λ n. 1 ≤ n → n ≤ length (times_along lines) → (event : Event) × Contains (events_of lines) event × (event.number ≡ n)) [
      | zero ↦ λ low high. absurd (omega arith)
      | suc k ↦ λ low high. let whole = as_many lines in
          let inside : k < length (events_of lines) = omega arith in
          let is = number_at k (as_event some) inside in (
            get_or (events_of lines) k (as_event some),
            Contains-get_or (events_of lines) k (as_event some) inside,
            (let e : (get_or (events_of lines) k (as_event some)).number ≡ suc k = omega arith in e),
          )
    ]) within.0 within.1
