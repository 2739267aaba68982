-- Worked examples of the choice among schedules, and of an association line.
use Rattle.cif_laws.proofs.Common.{◌≡◌, ℕ, List, [], ◌∷◌, refl, inl, inr, Some, subst, Contains, ◌⊎◌, false, rules, codes, Option, first_record, Key}
use Rattle.cif_laws.proofs.Common.{schedule_key, ScheduleKey, Body, schedule_body, IsAtMost, Stamp, Entry, put_with, body_of, State, live_table, schedule_runs}
use Rattle.cif_laws.proofs.Common.{schedule_choice_cmp, IsRunning, IsChosen}
use Rattle.jiff_core.specs.Calendar.{days_from_civil, day_count, days_of_years, days_of_months}
use Rattle.cif_laws.proofs.records.Builders.{no_text, bs, lo, f2_origin, f2_terminus}
use Rattle.cif_laws.proofs.lists.Membership.{nil-Contains}
use Rattle.state_laws.proofs.states.PlainTable.{Keyed, find_in, live_at, live_none}

-- each body in the live table is the body of one of the state's entries
pub in_state : (state : State) (key : Key) (body : Body) → live_table state key ≡ Some body → (entry : Entry) × Contains state.entries (key, entry)
    × (body_of entry.op ≡ Some body)
in_state = search (rules, find_in, live_at, live_none)

-- the stamp of all entries in the examples
abbrev pub some_stamp : Stamp
some_stamp = record { file = record { moment = record { day = 23536; minute = 1260 }; reference = codes "DFROC1A" }; number = 2 }

abbrev put_lines : List (List ℕ) → Entry
put_lines lines = record { stamp = some_stamp; op = put_with (schedule_body lines) }

abbrev placed : ScheduleKey → List (List ℕ) → Keyed
placed key lines = (schedule_key key, put_lines lines)

abbrev key_of : ℕ → ℕ → ScheduleKey
key_of day letter = record { uid = codes "C10001"; runs_from = day; indicator = letter }

-- `permanent`, `overlay` and `cancellation` are three schedules of one UID. The overlay replaces
-- the permanent schedule on two days, and the cancellation applies on a third day
abbrev permanent : List (List ℕ)
permanent = bs (codes "N") (codes "C10001") (codes "240610") (codes "240616") (codes "1111111") (codes "1A10") (codes "P") ∷ f2_origin ∷ f2_terminus ∷ []

abbrev overlay : List (List ℕ)
overlay =
    bs (codes "N") (codes "C10001") (codes "240611") (codes "240613") (codes "0101000") (codes "1A10") (codes "O")
    ∷ lo (codes "ASHFELD") no_text (codes "0915") (codes "0915") (codes "1") (codes "SL") ∷ f2_terminus ∷ []

abbrev cancellation : List (List ℕ)
cancellation = bs (codes "N") (codes "C10001") (codes "240614") (codes "240614") (codes "0000100") (codes "1A10") (codes "C") ∷ []

abbrev three : State
three = record {
  horizon = 0;
  ledger = [];
  entries =
      (schedule_key (key_of 23537 80), put_lines permanent) ∷ (schedule_key (key_of 23538 79), put_lines overlay) ∷
      (schedule_key (key_of 23541 67), put_lines cancellation) ∷ [];
}

abbrev schedule_in : Key → ScheduleKey
schedule_in (schedule_key key) = key
schedule_in _ = key_of 0 0

abbrev lines_in : Option Body → List (List ℕ)
lines_in (Some (schedule_body lines)) = lines
lines_in _ = []

abbrev IsOneOf : ScheduleKey → List (List ℕ) → ScheduleKey → List (List ℕ) → Type 0
IsOneOf key lines other others = (key ≡ other) × (lines ≡ others)

one_of : (key other : ScheduleKey) (lines others : List (List ℕ)) (entry : Entry) → placed key lines ≡ (schedule_key other, entry)
    → body_of entry.op ≡ Some (schedule_body others) → IsOneOf key lines other others
one_of = search (rules, schedule_in, lines_in)

one_of_three : (other : ScheduleKey) (others : List (List ℕ)) → live_table three (schedule_key other) ≡ Some (schedule_body others)
    → IsOneOf (key_of 23537 80) permanent other others ⊎ (IsOneOf (key_of 23538 79) overlay other others ⊎ IsOneOf (key_of 23541 67) cancellation other others)
one_of_three other others h = by (in_state three _ (schedule_body others) h)
  where
    by : (entry : Entry) × Contains three.entries (schedule_key other, entry) × (body_of entry.op ≡ Some (schedule_body others))
        → IsOneOf (key_of 23537 80) permanent other others ⊎ (IsOneOf (key_of 23538 79) overlay other others ⊎ IsOneOf
        (key_of 23541 67) cancellation other others)
    by found = search (rules, placed, key_of, overlay, cancellation, one_of, permanent, nil-Contains)

-- the cancellation doesn't apply on 11 June, since it is for 14 June
cancelled_not : schedule_runs (first_record cancellation) 23538 ≡ false
unfolding days_from_civil day_count days_of_years days_of_months
cancelled_not = refl

overlay_runs : IsRunning (live_table three) (codes "C10001") 23538 (key_of 23538 79) overlay
unfolding days_from_civil day_count days_of_years days_of_months
overlay_runs = record { uid_is = refl; is_live = refl; runs_then = refl }

-- on 11 June the overlay is chosen
pub overlay_chosen : IsChosen (live_table three) (codes "C10001") 23538 (key_of 23538 79) overlay
overlay_chosen = record { running = overlay_runs; first = λ other others running. by other others running (one_of_three _ _ running.is_live) }
  where
    by : (other : ScheduleKey) (others : List (List ℕ)) → IsRunning (live_table three) (codes "C10001") 23538 other others
        → IsOneOf (key_of 23537 80) permanent other others ⊎ (IsOneOf (key_of 23538 79) overlay other others ⊎ IsOneOf
        (key_of 23541 67) cancellation other others) → IsAtMost schedule_choice_cmp (key_of 23538 79) other
    by other others running (inl e) = subst (λ k. IsAtMost schedule_choice_cmp (key_of 23538 79) k) e.0 (λ greater. cc)
    by other others running (inr (inl e)) = subst (λ k. IsAtMost schedule_choice_cmp (key_of 23538 79) k) e.0 (λ greater. cc)
    by other others running (inr (inr e)) = search (rules, cancellation, cancelled_not)

-- the cancellation applies on 14 June
cancellation_runs : IsRunning (live_table three) (codes "C10001") 23541 (key_of 23541 67) cancellation
unfolding days_from_civil day_count days_of_years days_of_months
cancellation_runs = record { uid_is = refl; is_live = refl; runs_then = refl }

-- on 14 June the cancellation is chosen, so no train runs
pub cancellation_chosen : IsChosen (live_table three) (codes "C10001") 23541 (key_of 23541 67) cancellation
cancellation_chosen = record { running = cancellation_runs; first = λ other others running. by other others (one_of_three _ _ running.is_live) }
  where
    by : (other : ScheduleKey) (others : List (List ℕ))
        → IsOneOf (key_of 23537 80) permanent other others ⊎ (IsOneOf (key_of 23538 79) overlay other others ⊎ IsOneOf
        (key_of 23541 67) cancellation other others) → IsAtMost schedule_choice_cmp (key_of 23541 67) other
    by other others (inl e) = subst (λ k. IsAtMost schedule_choice_cmp (key_of 23541 67) k) e.0 (λ greater. cc)
    by other others (inr (inl e)) = subst (λ k. IsAtMost schedule_choice_cmp (key_of 23541 67) k) e.0 (λ greater. cc)
    by other others (inr (inr e)) = subst (λ k. IsAtMost schedule_choice_cmp (key_of 23541 67) k) e.0 (λ greater. cc)
