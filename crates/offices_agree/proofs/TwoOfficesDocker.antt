-- The docker of the worked example: what the two files print for ASHFELD on 10 June 2024.
use Rattle.cif_laws.proofs.Common.{◌≡◌, ℕ, List, [], ◌∷◌, refl, inl, inr, Some, None, lit<, rules, arith, ap, sym, ◌∙◌, subst, Contains, Bool, true, false, ◌⊎◌}
use Rattle.cif_laws.proofs.Common.{◌++◌, fold, cond, codes, Option, is_eq, Ordering, Equal, Greater, columns, Key, tiploc_key, schedule_key, association_key}
use Rattle.cif_laws.proofs.Common.{ScheduleKey, Body, schedule_body, association_body, arrival, departure, key_cmp, moment_of, HaveDistinctMoments, Table}
use Rattle.cif_laws.proofs.Common.{IsPlainTable, after_files, empty_table, HaveSameFiles, Event, events_of, event_line, event_day, IsRunning, TrainRuns}
use Rattle.cif_laws.proofs.Common.{schedule_choice_cmp, DockerLine, line_of_event, IsAssociationLine, IsEventLine, IsDockerList, IsDockerText, docker_text}
use Rattle.jiff_core.specs.Calendar.{days_from_civil, day_count, days_of_years, days_of_months}
use Rattle.docker_model.specs.state.Stamp.{Moment}
use Rattle.docker_model.specs.run.Run.{Files}
use Rattle.cif_laws.proofs.lists.Membership.{Contains-cons, Contains-single, cons-Contains, cons-Contains-first}
use Rattle.cif_laws.proofs.orders.Orders.{exact_key}
use Rattle.state_laws.proofs.states.OneJoin.{docker_unique}
use Rattle.state_laws.proofs.states.OnePlainTable.{one_plain_table}
use Rattle.offices_agree.proofs.TwoOfficesFiles.{full_file, update_file, first_key, second_key, second_schedule, revised_schedule, place}
use Rattle.offices_agree.proofs.TwoOfficesFiles.{first_schedule, description, changes_of_full, changes_of_update}

-- ---- the plain table of the two files

-- the two files, the older first
abbrev pub both : Files
both = full_file ∷ update_file ∷ []

one_of_both : (file : List (List ℕ)) → Contains both file → (full_file ≡ file) ⊎ (update_file ≡ file)
one_of_both = search (rules, full_file, update_file)

day_of_moment : Moment → ℕ
day_of_moment moment = moment.day

days_differ : moment_of full_file ≡ moment_of update_file → ⊥
unfolding days_from_civil day_count days_of_years days_of_months day_of_moment
days_differ = search (rules, day_of_moment)

distinct_by : (first second : List (List ℕ)) → (full_file ≡ first) ⊎ (update_file ≡ first) → (full_file ≡ second) ⊎ (update_file ≡ second)
    → moment_of first ≡ moment_of second → first ≡ second
distinct_by first second (inl one) (inl two) same = sym one ∙ two
distinct_by first second (inl one) (inr two) same = absurd (days_differ (ap moment_of one ∙ same ∙ ap moment_of (sym two)))
distinct_by first second (inr one) (inl two) same = absurd (days_differ (ap moment_of two ∙ sym same ∙ ap moment_of (sym one)))
distinct_by first second (inr one) (inr two) same = sym one ∙ two

-- the two files have different moments
pub both_distinct : (files : Files) → HaveSameFiles both files → HaveDistinctMoments files
both_distinct files same first second in_first in_second =
    distinct_by first second (one_of_both first ((same first).1 in_first)) (one_of_both second ((same second).1 in_second))

-- the plain table of the two files
abbrev the_table : Table
the_table = after_files empty_table both

table_is : (files : Files) → HaveSameFiles both files → IsPlainTable files the_table
unfolding days_from_civil day_count days_of_years days_of_months
table_is files same = record {
  ordered = both;
  order = record { same = same; ascending = ((refl, tt), (tt, tt)) };
  is = λ key. refl;
}

plain_is : (files : Files) (plain : Table) → HaveSameFiles both files → IsPlainTable files plain → plain ≡ the_table
plain_is files plain same is = one_plain_table files plain the_table is (table_is files same)

-- ---- what is under each key

found : Bool → Bool → Bool → Option Body
found true second named = Some (schedule_body revised_schedule)
found false true named = Some (schedule_body second_schedule)
found false false true = Some description
found false false false = None

-- the table after the changes, each of which is found by a test
abbrev listed : Bool → Bool → Bool → Option Body
listed first second named =
    cond first (Some (schedule_body revised_schedule)) (cond second (Some (schedule_body second_schedule))
    (cond first (Some (schedule_body first_schedule)) (cond named (Some description) None)))

listed_found : (first second named : Bool) → listed first second named ≡ found first second named
unfolding found
listed_found = search rules

is_first : Key → Bool
is_first key = is_eq (key_cmp (schedule_key first_key) key)

is_second : Key → Bool
is_second key = is_eq (key_cmp (schedule_key second_key) key)

is_place : Key → Bool
is_place key = is_eq (key_cmp (tiploc_key place) key)

under : (key : Key) → the_table key ≡ found (is_first key) (is_second key) (is_place key)
unfolding is_first is_second is_place
under = search (rules, fold, changes_of_full, changes_of_update, listed_found, is_first, is_second, is_place)

equal_by_test : (o : Ordering) → is_eq o ≡ true → o ≡ Equal
equal_by_test = search rules

-- ---- the trains

same_key : (own key : ScheduleKey) → is_eq (key_cmp (schedule_key own) (schedule_key key)) ≡ true → own ≡ key
same_key own key h = let same : schedule_key own ≡ schedule_key key = exact_key (schedule_key own) (schedule_key key) (equal_by_test _ h) in cc

-- the only schedules in the table are the revision of the first train and the second train
abbrev IsTrain : ScheduleKey → List (List ℕ) → Type 0
IsTrain key lines = ((first_key ≡ key) × (revised_schedule ≡ lines)) ⊎ ((second_key ≡ key) × (second_schedule ≡ lines))

only_trains : (key : ScheduleKey) (lines : List (List ℕ)) → the_table (schedule_key key) ≡ Some (schedule_body lines) → IsTrain key lines
unfolding found is_first is_second
only_trains key lines live = by (is_first (schedule_key key)) (is_second (schedule_key key)) (is_place (schedule_key key)) refl refl
    (sym (under (schedule_key key)) ∙ live)
  where
    by : (first second named : Bool) → is_first (schedule_key key) ≡ first → is_second (schedule_key key) ≡ second
        → found first second named ≡ Some (schedule_body lines) → IsTrain key lines
    by true second named one two is = inl (same_key _ _ one, cc)
    by false true named one two is = inr (same_key _ _ two, cc)
    by false false true one two is = let never : ⊥ = cc in absurd never
    by false false false one two is = let never : ⊥ = cc in absurd never

no_association : (key : Key) (line : List ℕ) → the_table key ≡ Some (association_body line) → ⊥
unfolding found
no_association = search (rules, is_first, is_second, is_place, under, found, revised_schedule, second_schedule, description)

-- each train runs on 10 June
runs_if : (key : ScheduleKey) (lines : List (List ℕ))
    → ((other : ScheduleKey) (others : List (List ℕ)) → IsRunning the_table key.uid 23537 other others → key ≡ other)
    → IsRunning the_table key.uid 23537 key lines → ¬ (schedule_choice_cmp key key ≡ Greater) → ¬ (key.indicator ≡ 67)
    → TrainRuns the_table key.uid 23537 key lines
runs_if = search rules

uids_differ : codes "C10001" ≡ codes "C20002" → ⊥
uids_differ = search rules

uid_of : ScheduleKey → List ℕ
uid_of key = key.uid

only_first : (other : ScheduleKey) (others : List (List ℕ)) → IsRunning the_table (codes "C10001") 23537 other others → first_key ≡ other
unfolding uid_of
only_first other others running = elim (only_trains other others running.is_live) [
  | inl same ↦ same.0
  | inr same ↦ absurd (uids_differ (sym (ap uid_of same.0 ∙ running.uid_is)))
]

only_second : (other : ScheduleKey) (others : List (List ℕ)) → IsRunning the_table (codes "C20002") 23537 other others → second_key ≡ other
unfolding uid_of
only_second other others running = elim (only_trains other others running.is_live) [
  | inl same ↦ absurd (uids_differ (ap uid_of same.0 ∙ running.uid_is))
  | inr same ↦ same.0
]

first_runs : TrainRuns the_table (codes "C10001") 23537 first_key revised_schedule
unfolding days_from_civil day_count days_of_years days_of_months
first_runs = grind (arith, runs_if, first_key, revised_schedule, only_first)

second_runs : TrainRuns the_table (codes "C20002") 23537 second_key second_schedule
unfolding days_from_civil day_count days_of_years days_of_months
second_runs = grind (arith, runs_if, second_key, second_schedule, only_second)

-- ---- the lines of the docker

-- the first train leaves ASHFELD at 09:05
abbrev leaves : Event
leaves = record { number = 1; place = 1; occasion = departure; time = 1090 }

-- the first train ends at BRAYTON at 09:35
abbrev leaves_off : Event
leaves_off = record { number = 2; place = 2; occasion = arrival; time = 1150 }

-- the second train starts at BRAYTON at 08:20
abbrev sets_out : Event
sets_out = record { number = 1; place = 1; occasion = departure; time = 1000 }

-- the second train arrives at ASHFELD at 08:50
abbrev arrives : Event
arrives = record { number = 2; place = 2; occasion = arrival; time = 1060 }

abbrev arrival_line : DockerLine
arrival_line = line_of_event second_key 23537 second_schedule arrives

abbrev departure_line : DockerLine
departure_line = line_of_event first_key 23537 revised_schedule leaves

-- an event of a train at ASHFELD on 10 June has a line
line_there : (key : ScheduleKey) (schedule : List (List ℕ)) (event : Event) → TrainRuns the_table key.uid 23537 key schedule
    → Contains (events_of schedule) event → columns 3 9 (event_line schedule event) ≡ place → event_day 23537 schedule event ≡ 23537
    → IsEventLine the_table place 23537 (line_of_event key 23537 schedule event)
line_there = search rules

departs : IsEventLine the_table place 23537 departure_line
departs = line_there first_key revised_schedule leaves first_runs (0, lit< tt, refl) refl refl

comes : IsEventLine the_table place 23537 arrival_line
comes = line_there second_key second_schedule arrives second_runs (1, lit< tt, refl) refl refl

events_of_first : (event : Event) → Contains (events_of revised_schedule) event → (leaves ≡ event) ⊎ (leaves_off ≡ event)
events_of_first = search (rules, revised_schedule)

events_of_second : (event : Event) → Contains (events_of second_schedule) event → (sets_out ≡ event) ⊎ (arrives ≡ event)
events_of_second = search (rules, second_schedule)

places_differ : codes "BRAYTON" ≡ codes "ASHFELD" → ⊥
places_differ = search rules

-- the first train's only event at ASHFELD on 10 June is its departure
first_there : (start : ℕ) (event : Event) → Contains (events_of revised_schedule) event → columns 3 9 (event_line revised_schedule event) ≡ place
    → event_day start revised_schedule event ≡ 23537 → (leaves ≡ event) × (start ≡ 23537)
first_there = search (rules, events_of_first, revised_schedule, places_differ, place)

-- the second train's only event at ASHFELD on 10 June is its arrival
second_there : (start : ℕ) (event : Event) → Contains (events_of second_schedule) event → columns 3 9 (event_line second_schedule event) ≡ place
    → event_day start second_schedule event ≡ 23537 → (arrives ≡ event) × (start ≡ 23537)
second_there = search (rules, events_of_second, places_differ, second_schedule, place)

-- if this is a train's only event there, each line of the train is the line of this event
line_by : (own : ScheduleKey) (lines : List (List ℕ)) (there : Event) (line : DockerLine) (made : IsEventLine the_table place 23537 line)
    → ((start : ℕ) (event : Event) → Contains (events_of lines) event → columns 3 9 (event_line lines event) ≡ place
    → event_day start lines event ≡ 23537 → (there ≡ event) × (start ≡ 23537))
    → (own ≡ made.key) × (lines ≡ made.schedule) → line_of_event own 23537 lines there ≡ line
line_by own lines there line made only same =
    let told = subst (λ (s : List (List ℕ)). Contains (events_of s) made.event → columns 3 9 (event_line s made.event) ≡ place
    → event_day made.start s made.event ≡ 23537 → (there ≡ made.event) × (made.start ≡ 23537)) same.1 (only made.start made.event)
    made.among made.here made.today in
    (λ i. line_of_event (same.0 i) (sym told.1 i) (same.1 i) (told.0 i)) ∙ sym made.is

only_event_lines : (line : DockerLine) → IsEventLine the_table place 23537 line → (arrival_line ≡ line) ⊎ (departure_line ≡ line)
only_event_lines line made = elim (only_trains made.key made.schedule made.train_runs.chosen.running.is_live) [
  | inl same ↦ inr (line_by first_key revised_schedule leaves line made first_there same)
  | inr same ↦ inl (line_by second_key second_schedule arrives line made second_there same)
]

-- the docker of ASHFELD on 10 June has these two lines
abbrev the_lines : List DockerLine
the_lines = arrival_line ∷ departure_line ∷ []

is_docker : IsDockerList the_table place 23537 the_lines
is_docker = record {
  ascending = ((refl, tt), (tt, tt));
  members = λ line. (λ among. is_line line (Contains-cons arrival_line (departure_line ∷ []) line among), λ made. among_lines line made);
}
  where
    is_line : (line : DockerLine) → (arrival_line ≡ line) ⊎ Contains (departure_line ∷ []) line
        → IsEventLine the_table place 23537 line ⊎ IsAssociationLine the_table place 23537 line
    is_line line (inl same) = inl (subst (IsEventLine the_table place 23537) same comes)
    is_line line (inr inside) = inl (subst (IsEventLine the_table place 23537) (Contains-single departure_line line inside) departs)

    among_by : (line : DockerLine) → (arrival_line ≡ line) ⊎ (departure_line ≡ line) → Contains the_lines line
    among_by line (inl same) = subst (Contains the_lines) same (cons-Contains-first arrival_line (departure_line ∷ []))
    among_by line (inr same) =
        subst (Contains the_lines) same (cons-Contains arrival_line (departure_line ∷ []) departure_line (cons-Contains-first departure_line []))

    among_lines : (line : DockerLine) → IsEventLine the_table place 23537 line ⊎ IsAssociationLine the_table place 23537 line → Contains the_lines line
    among_lines line (inl made) = among_by line (only_event_lines line made)
    among_lines line (inr made) = absurd (no_association (association_key made.key) made.association made.chosen.associated.is_live)

-- ---- the text of the docker

abbrev pub the_docker : List ℕ
the_docker =
    codes "DOCKER ASHFELD 2024-06-10 ASHFELD JUNCTION              \n"
    ++ codes "0850  A 2B20 C20002 P   2       UL  0850 BRAYTON ASHFELD\n"
    ++ codes "0905  D 1A10 C10001 P   3   SL      0905 ASHFELD BRAYTON\n"
    ++ codes "END                                                     \n"

the_text : docker_text the_table place 23537 the_lines ≡ the_docker
unfolding days_from_civil day_count days_of_years days_of_months
the_text = refl

text_of_table : (text : List ℕ) → IsDockerText the_table place 23537 text → text ≡ the_docker
text_of_table text is = is.2 ∙ ap (docker_text the_table place 23537) (docker_unique _ _ _ is.1 is_docker) ∙ the_text

-- the docker of the plain table of the two files
pub text_of_both : (files : Files) (plain : Table) (text : List ℕ) → HaveSameFiles both files → IsPlainTable files plain
    → IsDockerText plain place 23537 text → text ≡ the_docker
text_of_both files plain text same is told = text_of_table _ (subst (λ (t : Table). IsDockerText t place 23537 text) (plain_is _ _ same is) told)
