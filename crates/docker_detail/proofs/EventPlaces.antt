-- A walk over the records of a schedule finds the record of each event, and the change en route that
-- is in force there.
use Rattle.cif_laws.proofs.Common.{◌≡◌, ℕ, ◌+◌, ◌<◌, ◌≤◌, cond, List, [], ◌∷◌, ◌++◌, length, take, refl, ap, sym, ◌∙◌, subst, rules, inl, inr, Some, Contains}
use Rattle.cif_laws.proofs.Common.{append_assoc, length-append, arith, Bool, Option, le-leb, lt-leb, Contains-append_cases, take-append_seam, first_record}
use Rattle.cif_laws.proofs.Common.{Occasion, times_of, Event, events_of, event_line}
use Rattle.docker_model.specs.docker.DetailedText.{origin_text, change_at, extra_record}
use Rattle.cif_laws.proofs.lists.Membership.{nil-Contains}
use Rattle.docker_laws.specs.EventWalk.{events_here, events_from, last_change}
use Rattle.docker_laws.proofs.dockers.EventWalk.{events_walked, line_here, change_more}
use Rattle.docker_detail.specs.Records.{Place, change_after, first_of, place_from, place_in, records_of}
use Rattle.docker_detail.specs.OriginText.{found_text}

-- ---- the numbers of the events

-- says that an event is one of `long` events of a record. The first of these has the number `n`, and
-- `p` is the index of the record
record IsHere (n p long : ℕ) (event : Event) : Type 0 where
  pub low : n ≤ event.number
  pub below : event.number < n + long
  pub at : event.place ≡ p

here_is : (n p : ℕ) (times : List (Occasion × ℕ)) (event : Event) → Contains (events_here n p times) event → IsHere n p (length times) event
here_is n p [] event among = absurd (nil-Contains event among)
here_is n p (time ∷ times) event among = grind (arith, (here_is (n + 1) p times event))

from_low : (n p : ℕ) (lines : List (List ℕ)) (event : Event) → Contains (events_from n p lines) event → n ≤ event.number
from_low n p [] event among = absurd (nil-Contains _ among)
from_low n p (line ∷ lines) event among = elim (Contains-append_cases (events_here n p (times_of line))
    (events_from (n + length (times_of line)) (p + 1) lines) event among) [
      | inl inside ↦ (here_is n _ (times_of line) _ inside).low
      | inr later ↦ let low = from_low (n + length (times_of line)) _ lines _ later in omega arith
    ]

-- ---- the place of an event

-- the place of an event, in the terms of the definitions
abbrev event_at : List (List ℕ) → Event → Place
event_at lines event = record { change = change_at lines event; location = Some (event_line lines event) }

-- if a walk has passed the records `front` of a schedule, it finds each event of the later records
found : (whole front lines : List (List ℕ)) (passed : ℕ) (event : Event) → whole ≡ front ++ lines
    → Contains (events_from (passed + 1) (length front) lines) event
    → place_from passed (last_change front) lines event.number ≡ event_at whole event
found whole front [] passed event is among = absurd (nil-Contains event among)
found whole front (line ∷ lines) passed event is among =
    elim (Contains-append_cases (events_here (passed + 1) (length front) (times_of line))
    (events_from (passed + 1 + length (times_of line)) (length front + 1) lines) event among) [
      | inl inside ↦
          let there = here_is (passed + 1) (length front) (times_of line) event inside in
          let below = there.below in
          let upto : event.number ≤ passed + length (times_of line) = omega arith in
          (λ i. either (le-leb event.number (passed + length (times_of line)) upto i)) ∙ here there.at
      | inr later ↦
          let low = from_low (passed + 1 + length (times_of line)) (length front + 1) lines event later in
          let above : passed + length (times_of line) < event.number = omega arith in
          (λ i. either (lt-leb event.number (passed + length (times_of line)) above i))
          ∙ (λ i. place_from (passed + length (times_of line)) (sym (change_more front line) i) lines event.number)
          ∙ found whole (front ++ line ∷ []) lines (passed + length (times_of line)) event (is ∙ sym (append_assoc front (line ∷ []) lines))
          (subst (λ (v : ℕ × ℕ). Contains (events_from v.0 v.1 lines) event) (λ i. (counted i, longer i)) later)
    ]
  where
    longer : length front + 1 ≡ length (front ++ line ∷ [])
    longer = sym (length-append front (line ∷ []))

    counted : passed + 1 + length (times_of line) ≡ passed + length (times_of line) + 1
    counted = omega arith

    either : Bool → Place
    either b = cond b (record { change = last_change front; location = Some line })
        (place_from (passed + length (times_of line)) (change_after line (last_change front)) lines event.number)

    here : event.place ≡ length front → record { change = last_change front; location = Some line } ≡ event_at whole event
    here at = λ i. record {
      change = sym (ap (λ (w : List (List ℕ)). change_at w event) is
          ∙ ap (λ (n : ℕ). last_change (take n (front ++ line ∷ lines))) at
          ∙ ap last_change (take-append_seam front (line ∷ lines))) i;
      location = Some (sym (ap (λ (w : List (List ℕ)). event_line w event) is ∙ line_here front line lines event at) i);
    }

-- the place of the event with an event's number is the event's place
pub place_is : (lines : List (List ℕ)) (event : Event) → Contains (events_of lines) event → place_in lines event.number ≡ event_at lines event
place_is lines event among = found lines [] lines 0 event refl (subst (λ (events : List Event). Contains events event) (events_walked lines) among)

-- a schedule that has an event has a first record
pub first_is : (lines : List (List ℕ)) (event : Event) → Contains (events_of lines) event → first_of lines ≡ Some (first_record lines)
first_is = search (rules, nil-Contains)

-- ---- the text of an event's origin

with_records : (start : ℕ) (lines : List (List ℕ)) (event : Event) (association : Option (List ℕ)) → origin_text start lines event association
    ≡ found_text start event.number (record {
      basic = Some (first_record lines);
      extra = extra_record lines;
      change = change_at lines event;
      location = Some (event_line lines event);
    }) association
unfolding origin_text found_text
with_records start lines event association = refl

-- the text that is made from the records of the event with an event's number is the text of the
-- event's origin
pub origin_is : (start : ℕ) (lines : List (List ℕ)) (event : Event) (association : Option (List ℕ)) → Contains (events_of lines) event
    → found_text start event.number (records_of lines event.number) association ≡ origin_text start lines event association
origin_is = search (rules, with_records, first_is, place_is)
