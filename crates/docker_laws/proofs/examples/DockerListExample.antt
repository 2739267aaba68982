-- The docker of the example file at ASHFELD on 10 June 2024 has only one line.
use Rattle.cif_laws.proofs.Common.{◌≡◌, ℕ, List, [], ◌∷◌, refl, inl, inr, Some, None, lit<, rules, arith, ap, sym, ◌∙◌, subst, Contains, Bool, true, false, ◌⊎◌}
use Rattle.cif_laws.proofs.Common.{◌++◌, codes, Option, is_eq, Ordering, Equal, columns, Key, schedule_key, ScheduleKey, Body, schedule_body, key_cmp, Table}
use Rattle.cif_laws.proofs.Common.{live_table, Event, events_of, event_line, event_day, IsRunning, IsChosen, TrainRuns, DockerLine, line_of_event}
use Rattle.cif_laws.proofs.Common.{IsAssociationLine, IsEventLine, IsDockerList, IsDockerText, docker_text}
use Rattle.jiff_core.specs.Calendar.{days_from_civil, day_count, days_of_years, days_of_months}
use Rattle.cif_laws.proofs.records.Builders.{f2_schedule, f2_terminus}
use Rattle.state_laws.proofs.examples.StateExamples.{f2_state}
use Rattle.docker_laws.proofs.examples.DockerExamples.{leaves_f2, ends_f2, f2_key}
use Rattle.cif_laws.proofs.lists.Membership.{Contains-single, single-Contains}
use Rattle.cif_laws.proofs.orders.Orders.{exact_key}

abbrev live : Table
live = live_table f2_state

-- an ordering that passes the test `is_eq` is `Equal`
equal_by_test : (o : Ordering) → is_eq o ≡ true → o ≡ Equal
equal_by_test = search rules

abbrev found : Bool → Option Body
found true = Some (schedule_body f2_schedule)
found false = None

live_by_test : (key : Key) → live key ≡ found (is_eq (key_cmp (schedule_key f2_key) key))
live_by_test = search (rules, f2_key)

found_is : (b : Bool) (body : Body) → found b ≡ Some body → (b ≡ true) × (schedule_body f2_schedule ≡ body)
found_is = search (rules, f2_schedule)

only_live : (key : Key) (body : Body) → live key ≡ Some body → (schedule_key f2_key ≡ key) × (schedule_body f2_schedule ≡ body)
only_live key body h =
    let told = found_is (is_eq (key_cmp (schedule_key f2_key) key)) body (sym (live_by_test key) ∙ h) in
    (exact_key (schedule_key f2_key) key (equal_by_test _ told.0), told.1)

abbrev schedule_key_of : Key → ScheduleKey
schedule_key_of (schedule_key key) = key
schedule_key_of _ = f2_key

abbrev lines_in : Body → List (List ℕ)
lines_in (schedule_body lines) = lines
lines_in _ = []

only_running : (uid : List ℕ) (day : ℕ) (key : ScheduleKey) (lines : List (List ℕ)) → IsRunning live uid day key lines → (f2_key ≡ key) × (f2_schedule ≡ lines)
only_running uid day key lines running =
    let told = only_live (schedule_key key) (schedule_body lines) running.is_live in
    (ap schedule_key_of told.0, ap lines_in told.1)

runs_on_10_june : IsRunning live (codes "C10001") 23537 f2_key f2_schedule
unfolding days_from_civil day_count days_of_years days_of_months
runs_on_10_june = record { uid_is = refl; is_live = refl; runs_then = refl }

chosen_on_10_june : IsChosen live (codes "C10001") 23537 f2_key f2_schedule
chosen_on_10_june = search (rules, runs_on_10_june, only_running, f2_key)

train_runs_on_10_june : TrainRuns live (codes "C10001") 23537 f2_key f2_schedule
train_runs_on_10_june = record { chosen = chosen_on_10_june; no_cancellation = λ cancelled. omega arith }

abbrev the_line : DockerLine
the_line = line_of_event f2_key 23537 f2_schedule leaves_f2

is_event_line : IsEventLine live (codes "ASHFELD") 23537 the_line
is_event_line = record {
  start = 23537;
  key = f2_key;
  schedule = f2_schedule;
  train_runs = train_runs_on_10_june;
  event = leaves_f2;
  among = (0, lit< tt, refl);
  here = refl;
  today = refl;
  is = refl;
}

two_events : (event : Event) → Contains (events_of f2_schedule) event → (leaves_f2 ≡ event) ⊎ (ends_f2 ≡ event)
two_events = search (rules, f2_schedule, leaves_f2, ends_f2)

-- the only event at ASHFELD on 10 June is the departure, and its train starts on that day
starts_then : (start : ℕ) (event : Event) → Contains (events_of f2_schedule) event → columns 3 9 (event_line f2_schedule event) ≡ codes "ASHFELD"
    → event_day start f2_schedule event ≡ 23537 → (leaves_f2 ≡ event) × (start ≡ 23537)
starts_then = search (rules, two_events, leaves_f2, ends_f2, f2_schedule, f2_terminus)

only_event_line : (line : DockerLine) → IsEventLine live (codes "ASHFELD") 23537 line → the_line ≡ line
only_event_line line made =
    let same = only_running made.key.uid made.start made.key made.schedule made.train_runs.chosen.running in
    let among : Contains (events_of f2_schedule) made.event = subst (λ s. Contains (events_of s) made.event) (sym same.1) made.among in
    let here : columns 3 9 (event_line f2_schedule made.event) ≡ codes "ASHFELD" = search rules in
    let today : event_day made.start f2_schedule made.event ≡ 23537 = subst (λ s. event_day made.start s made.event ≡ 23537) (sym same.1) made.today in
    let told = starts_then made.start made.event among here today in
    (λ i. line_of_event (same.0 i) (sym told.1 i) (same.1 i) (told.0 i)) ∙ sym made.is

no_association_line : (line : DockerLine) → ¬ IsAssociationLine live (codes "ASHFELD") 23537 line
no_association_line = search (rules, only_live)

only_line : (line : DockerLine) → IsEventLine live (codes "ASHFELD") 23537 line ⊎ IsAssociationLine live (codes "ASHFELD") 23537 line → the_line ≡ line
only_line line (inl made) = only_event_line line made
only_line line (inr made) = absurd (no_association_line line made)

-- the docker list of the example file has only this line
pub f2_docker : IsDockerList live (codes "ASHFELD") 23537 (the_line ∷ [])
f2_docker = record {
  ascending = (tt, tt);
  members = λ line. (
    λ among. inl (subst (IsEventLine live (codes "ASHFELD") 23537) (Contains-single _ _ among) is_event_line),
    λ made. single-Contains _ _ (only_line _ made),
  );
}

-- the text with this one line is the docker text of the example file
pub f2_docker_text : IsDockerText live (codes "ASHFELD") 23537 (docker_text live (codes "ASHFELD") 23537 (the_line ∷ []))
f2_docker_text = (the_line ∷ [], f2_docker, refl)

f2_docker_bytes : docker_text live (codes "ASHFELD") 23537 (the_line ∷ [])
    ≡ codes "DOCKER ASHFELD 2024-06-10                               " ++ 10 ∷ codes "0900  D 1A10 C10001 P   1   SL      0900 ASHFELD BRAYTON"
    ++ 10 ∷ codes "END                                                     " ++ 10 ∷ []
unfolding days_from_civil day_count days_of_years days_of_months
f2_docker_bytes = refl
