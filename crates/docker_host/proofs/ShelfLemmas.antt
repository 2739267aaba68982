-- The calls to a shelf preserve its invariant: the shelf agrees with its history.
use Rattle.std.proofs.Common.{◌≡◌, ℕ, ◌+◌, ◌-◌, ◌^◌, ◌<◌, ◌≤◌, Bool, true, false, List, [], ◌∷◌, ◌++◌, rules, length, if◌then◌else◌, Some, arith, refl, sym, ap}
use Rattle.std.proofs.Common.{subst, ◌∙◌, string_bytes, length-append, bytes_eq}
use Rattle.std.proofs.lemmas.Grind.{common_steps}
use Rattle.std.proofs.lemmas.List.{take-append-le, take_all}
use Rattle.std.proofs.Math.Nat.{eq-or-lt_of_le}
use Rattle.std.proofs.lemmas.Slice.Eq.{bytes_eq-Decides}
use Rattle.docker_host.specs.Counts.{IsCountOf}
use Rattle.docker_host.specs.History.{Text, Event, drafted, opened, placed}
use Rattle.docker_host.specs.Standing.{HappensAt, IsStandingOf, IsStill}
use Rattle.docker_host.specs.Shelf.{Texts, no_texts, with_text, after_event, after_events, IsMet, AreMet, shelf_standing, text_under}
use Rattle.docker_host.specs.Shelf.{is_put, last_put, put_from}
use Rattle.docker_host.specs.Places.{since_when, HoldsSince, IsKept}
use Rattle.docker_host.specs.declared.shelf.Place.{Place}
use Rattle.docker_host.proofs.CountLemmas.{number_of_few}
use Rattle.docker_host.proofs.StandingLemmas.{happen_append, happen_as}

-- the files after a list of events and then one more event are the files after the list, changed by
-- this event
pub after_events-append : (texts : Texts) (events : List Event) (event : Event)
    → after_events texts (events ++ event ∷ []) ≡ after_event (after_events texts events) event
after_events-append texts [] event = refl
after_events-append texts (first ∷ events) event = after_events-append (after_event texts first) events event

-- if `AreMet` holds for a list of events, and `IsMet` holds for one more event, `AreMet` holds for
-- the list with this event appended
pub AreMet-append : (texts : Texts) (events : List Event) (event : Event)
    → AreMet texts events → IsMet (after_events texts events) event → AreMet texts (events ++ event ∷ [])
AreMet-append texts [] event met last = (last, tt)
AreMet-append texts (first ∷ events) event met last = (met.0, AreMet-append (after_event texts first) events event met.1 last)

-- ---- what the files hold after one more event

-- at an earlier position, one more event makes no difference
earlier_standing : (events : List Event) (event : Event) (position : ℕ) (name : Text) → position ≤ length events
    → shelf_standing (events ++ event ∷ []) position name ≡ shelf_standing events position name
earlier_standing = search (rules, take-append-le)

-- at the position of the next event, each file holds the text that was last placed under its name
pub last_standing : (events : List Event) (name : Text) → shelf_standing events (length events) name ≡ text_under events name
last_standing events name = ap (λ (es : List Event). text_under es name) (take_all (length events) events (omega arith))

-- at the position of an appended event, each file holds the text that was last placed under
-- its name before
pub next_standing : (events : List Event) (event : Event) (name : Text)
    → shelf_standing (events ++ event ∷ []) (length events) name ≡ text_under events name
next_standing events event name = earlier_standing events event (length events) name (omega arith) ∙ last_standing events name

-- the events of a shelf can happen, also after one more event
standing_append : (events : List Event) (event : Event) → IsStandingOf (shelf_standing events) events
    → HappensAt (shelf_standing (events ++ event ∷ [])) (length events) event
    → IsStandingOf (shelf_standing (events ++ event ∷ [])) (events ++ event ∷ [])
standing_append = search (rules, happen_append, happen_as, earlier_standing)

-- if a file has held the same text since some event, it still has after an event that doesn't change
-- this file
since_append : (events : List Event) (event : Event) (name : Text) (since : ℕ)
    → text_under (events ++ event ∷ []) name ≡ text_under events name → HoldsSince events name since
    → HoldsSince (events ++ event ∷ []) name since
since_append = grind (common_steps, arith, eq-or-lt_of_le, length-append, last_standing, earlier_standing)

-- a file that has just got its text has held this text since the last event
since_last : (events : List Event) (name : Text) (since : ℕ) → since ≡ length events → HoldsSince events name since
since_last = grind (common_steps, arith, last_standing)

-- ---- when a text was put

-- one more event puts a text under a name, or the last text under this name was put as before
put_from-append : (now last : ℕ) (events : List Event) (event : Event) (name : Text) → put_from now last (events ++ event ∷ []) name
    ≡ (if is_put event name then now + length events + 1 else put_from now last events name)
put_from-append now last [] event name = search rules
put_from-append now last (first ∷ events) event name =
    let same : now + 1 + length events ≡ now + length (first ∷ events) = omega arith in
    put_from-append (now + 1) (if is_put first name then now + 1 else last) events event name
    ∙ ap (λ (n : ℕ). if is_put event name then n + 1 else put_from now last (first ∷ events) name) same

-- an event that puts no text under this name changes nothing
put_before : (events : List Event) (event : Event) (name : Text) → is_put event name ≡ false
    → last_put (events ++ event ∷ []) name ≡ last_put events name
put_before = search (rules, put_from-append)

-- ---- the invariant after one more event

-- if an event that changes no file is appended, the shelf's invariant `IsKept` still holds
pub kept_still : (places : List Place) (events : List Event) (event : Event) → IsKept places events
    → ((texts : Texts) → after_event texts event ≡ texts) → ((name : Text) → is_put event name ≡ false)
    → IsMet (after_events no_texts events) event → HappensAt (shelf_standing (events ++ event ∷ [])) (length events) event
    → IsKept places (events ++ event ∷ [])
kept_still places events event kept still others met happens = record {
  met = AreMet-append _ events _ kept.met met;
  standing = standing_append events _ kept.standing happens;
  same = λ name. kept.same name ∙ sym (unchanged name);
  since = λ name few. since_append events _ name _ (unchanged name) (kept.since name few);
  counted = λ name. subst (IsCountOf (since_when places name)) (sym (put_before events _ name (others name))) (kept.counted name);
}
  where
    unchanged : (name : Text) → text_under (events ++ event ∷ []) name ≡ text_under events name
    unchanged name = ap (λ (texts : Texts). texts name) (after_events-append _ events _ ∙ still (after_events no_texts events))

-- if a text is written to a file and the event `placed` is appended, the shelf's invariant `IsKept`
-- still holds. `place.since` counts the events, with the event `placed`
pub kept_placed : (place : Place) (places : List Place) (events : List Event) (name text : Text) → IsKept places events
    → string_bytes place.name ≡ name → place.text.items ≡ text → IsCountOf place.since (length events + 1)
    → IsKept (place ∷ places) (events ++ placed name (Some text) ∷ [])
kept_placed place places events name text kept named held counted =
    subst (λ (n : Text). IsKept (place ∷ places) (events ++ placed n (Some text) ∷ [])) named
    (subst (λ (bytes : Text). IsKept (place ∷ places) (events ++ placed own (Some bytes) ∷ [])) held (record {
      met = AreMet-append no_texts _ _ kept.met tt;
      standing = standing_append _ _ kept.standing now_there;
      same = λ other. rw (after other, ← kept.same other) refl;
      since = λ other few. since other (bytes_eq own other) refl few;
      counted = λ other. rw put_from-append (count other (bytes_eq own other));
    }))
  where
    own : Text
    own = string_bytes place.name

    all : List Event
    all = events ++ placed own (Some place.text.items) ∷ []

    after : (other : Text) → text_under all other ≡ with_text own place.text.items (after_events no_texts events) other
    after other = ap (λ (texts : Texts). texts other) (after_events-append _ events _)

    now_there : shelf_standing all (length events + 1) own ≡ Some place.text.items
    now_there = ap (λ (n : ℕ). shelf_standing all n own) (sym (length-append events (placed own (Some place.text.items) ∷ [])))
        ∙ last_standing all _ ∙ after own
        ∙ (let same : bytes_eq own own ≡ true = (bytes_eq-Decides own own).1 refl in rw same refl)

    since : (other : Text) (is : Bool) → bytes_eq own other ≡ is → (if is then place.since else since_when places other) < 2 ^ 64 - 1
        → HoldsSince all other (if is then place.since else since_when places other)
    since other true is few = since_last all _ _ (search (rules, number_of_few, length-append))
    since other false is few = since_append _ _ _ _ (search (rules, after)) (kept.since other few)

    count : (other : Text) (is : Bool) → IsCountOf (if is then place.since else since_when places other)
        (if is then 0 + length events + 1 else last_put events other)
    count other true = omega (arith, counted)
    count other false = kept.counted other

-- if a file is opened and the event `opened` is appended, the shelf's invariant `IsKept` still
-- holds
pub kept_opened : (places : List Place) (events : List Event) (name text : Text) → IsKept places events
    → text_under events name ≡ Some text → IsKept places (events ++ opened name (Some text) ∷ [])
kept_opened places events name text kept found = kept_still _ events _ kept (λ texts. refl) (λ other. refl) (sym found, refl)
    (sym found ∙ sym (next_standing events _ name))

-- if no text was written to a file since a look, one more event doesn't change this
pub still_after : (events : List Event) (event : Event) (name : Text) (look : ℕ) → IsStill (shelf_standing events) name look (length events)
    → IsStill (shelf_standing (events ++ event ∷ [])) name look (length events)
still_after = search (rules, earlier_standing)

-- if a draft is made for a file to which no text was written since the look, the shelf's invariant
-- `IsKept` still holds
pub kept_drafted : (places : List Place) (events : List Event) (name : Text) (look : ℕ) → IsKept places events
    → IsStill (shelf_standing events) name look (length events) → IsKept places (events ++ drafted name look ∷ [])
kept_drafted = search (rules, kept_still, still_after)

-- if no text was written to a file since a look, this also holds for a history and a look that are
-- equal to these
pub still_as : (events shown : List Event) (name : Text) (look seen : ℕ) → events ≡ shown → look ≡ seen
    → IsStill (shelf_standing shown) name seen (length shown) → IsStill (shelf_standing events) name look (length events)
still_as = search rules
