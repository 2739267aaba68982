-- Lemmas on the docker lines of a schedule for one start day. The event lines of a docker are
-- exactly these lines, for all schedules and start days.
use Rattle.cif_laws.proofs.Common.{◌≡◌, ℕ, true, rules, List, Contains, sym, subst, Bool, eqb-true, arith, [], cond, refl, Some, None, false, common_steps}
use Rattle.cif_laws.proofs.Common.{◌==◌, filter, ◌&&◌, Option, bytes_eq, is_eq, bytes_eq-Decides, columns, ScheduleKey, schedule_key, schedule_body}
use Rattle.cif_laws.proofs.Common.{schedule_key_cmp, Table, HasGoodBodies, Event, events_of, event_day, event_line, TrainRuns, Train, DockerLine, line_of_event}
use Rattle.cif_laws.proofs.Common.{docker_line_cmp, IsEventLine}
use Rattle.docker_laws.specs.LiveRows.{IsTrainOn, TellsTrains}
use Rattle.docker_laws.specs.Gathering.{event_lines, runs_by, start_days}
use Rattle.cif_laws.proofs.lists.Membership.{Contains-map, map-Contains, nil-Contains}
use Rattle.cif_laws.proofs.lists.BoolsAndOptions.{both}
use Rattle.cif_laws.proofs.orders.Orders.{schedule_key_total, exact_schedule_key}
use Rattle.cif_laws.proofs.lists.FilteredMembers.{filter_back, filter_forth}
use Rattle.cif_laws.proofs.lists.Later.{later_weaker, later_filter, later_map}
use Rattle.cif_laws.proofs.lists.Sorted.{AreApart}
use Rattle.docker_laws.proofs.dockers.StartDays.{start_days_iff}
use Rattle.docker_laws.proofs.dockers.NearStarts.{event_near}
use Rattle.docker_laws.proofs.dockers.OneChoice.{one_schedule, one_train}
use Rattle.docker_laws.proofs.dockers.Events.{numbers_ascend}
use Rattle.docker_laws.proofs.dockers.OneDockerLine.{tied_lines_agree}
use Rattle.cif_laws.proofs.orders.AtMost.{eq_is}

-- `n == n` is true for each number `n`
pub number_itself : (n : ℕ) → (n == n) ≡ true
number_itself n = search rules

-- the line is the docker line of an event at the place on the day
pub record IsLineOfEvent (place : List ℕ) (day start : ℕ) (key : ScheduleKey) (lines : List (List ℕ)) (line : DockerLine) : Type 0 where
  pub event : Event
  pub among : Contains (events_of lines) event
  pub here : columns 3 9 (event_line lines event) ≡ place
  pub today : event_day start lines event ≡ day
  pub is : line ≡ line_of_event key start lines event

module _ (place : List ℕ) (day start : ℕ) (key : ScheduleKey) (lines : List (List ℕ)) where
  abbrev test : Event → Bool
  test event = bytes_eq (columns 3 9 (event_line lines event)) place && (event_day start lines event == day)

  -- each line that `event_lines` computes is the docker line of an event at the place on the day
  pub event_lines_back : (line : DockerLine) → Contains (event_lines place day start key lines) line → IsLineOfEvent place day start key lines line
  event_lines_back line among =
      let found = Contains-map (line_of_event key start lines) (filter test (events_of lines)) line among in
      let passed = filter_back test (events_of lines) found.0 found.1 in
      let parts = both (bytes_eq (columns 3 9 (event_line lines found.0)) place) (event_day start lines found.0 == day) passed.1 in
      search (rules, bytes_eq-Decides, eqb-true)

  -- `event_lines` computes the docker line of each event at the place on the day
  pub event_lines_forth : (line : DockerLine) → IsLineOfEvent place day start key lines line → Contains (event_lines place day start key lines) line
  event_lines_forth line is =
      let day_is : (event_day start lines is.event == day) ≡ true = search (rules, number_itself) in
      let passes : test is.event ≡ true = (λ i. (bytes_eq-Decides (columns 3 9 (event_line lines is.event)) place).1 is.here i && day_is i) in
      subst (Contains (event_lines place day start key lines)) (sym is.is) (map-Contains _ _ _ (filter_forth _ _ _ is.among passes))

  -- of the lines that `event_lines` computes, no two tie, since their events have different numbers
  pub event_lines_apart : AreApart docker_line_cmp (event_lines place day start key lines)
  event_lines_apart = grind (common_steps, arith, later_map, test, later_weaker, tied_lines_agree, later_filter, numbers_ascend)

-- the docker lines of a schedule for one start day
abbrev pub schedule_piece : (List ℕ → ℕ → Option Train) → List ℕ → ℕ → ScheduleKey → List (List ℕ) → ℕ → List DockerLine
schedule_piece trains place day key lines start = cond (runs_by (trains key.uid start) key) (event_lines place day start key lines) []

-- the line is a docker line of this schedule, for this start day
pub record IsOfSchedule (live : Table) (place : List ℕ) (day : ℕ) (key : ScheduleKey) (start : ℕ) (line : DockerLine) : Type 0 where
  pub made : IsEventLine live place day line
  pub of_key : made.key ≡ key
  pub of_start : made.start ≡ start

module _ (live : Table) (trains : List ℕ → ℕ → Option Train) (tell : TellsTrains live trains) (place : List ℕ) (day : ℕ) where
  -- each line that `schedule_piece` computes for a start day is in the docker
  pub schedule_piece_back : (key : ScheduleKey) (lines : List (List ℕ)) (start : ℕ) → live (schedule_key key) ≡ Some (schedule_body lines)
      → (line : DockerLine) → Contains (schedule_piece trains place day key lines start) line → IsOfSchedule live place day key start line
  schedule_piece_back key lines start is_live line among = by (trains key.uid start) (tell key.uid start) among
    where
      made : TrainRuns live key.uid start key lines → Contains (event_lines place day start key lines) line → IsOfSchedule live place day key start line
      made runs inside =
          let told = event_lines_back _ day start key lines line inside in
          record {
            made = search rules;
            of_key = refl;
            of_start = refl;
          }

      runs_as : (train : Train) → train.key ≡ key → TrainRuns live key.uid start train.key train.lines → TrainRuns live key.uid start key lines
      runs_as train same runs = search (rules, one_schedule)

      by : (found : Option Train) → IsTrainOn live key.uid start found → Contains (cond (runs_by found key) (event_lines place day start key lines) []) line
          → IsOfSchedule live place day key start line
      by None none inside = absurd (nil-Contains _ inside)
      by (Some train) runs inside = inner (is_eq (schedule_key_cmp train.key key)) refl inside
        where
          inner : (b : Bool) → is_eq (schedule_key_cmp train.key key) ≡ b → Contains (cond b (event_lines place day start key lines) []) line
              → IsOfSchedule live place day key start line
          inner true h here = made (runs_as train (exact_schedule_key train.key key (eq_is (schedule_key_cmp train.key key) h)) runs) here
          inner false h here = absurd (nil-Contains _ here)

  -- each event line of the docker is among the lines that `schedule_piece` computes for the line's
  -- schedule and start day
  pub schedule_piece_forth : (line : DockerLine) (made : IsEventLine live place day line)
      → Contains (schedule_piece trains place day made.key made.schedule made.start) line
  schedule_piece_forth line made = (elim (trains made.key.uid made.start) as (λ found. IsTrainOn live made.key.uid made.start found → Contains
      (cond (runs_by found made.key) (event_lines place day made.start made.key made.schedule) []) line) [
        | None ↦ λ none. absurd (none made.key made.schedule made.train_runs)
        | Some train ↦ λ runs. let same = one_train _ _ _ _ _ _ _ runs made.train_runs in
            let runs_is : is_eq (schedule_key_cmp train.key made.key) ≡ true = search (rules, schedule_key_total) in
            subst (λ b. Contains (cond b (event_lines place day made.start made.key made.schedule) []) line) (sym runs_is) inside
      ]) (tell made.key.uid made.start)
    where
      inside : Contains (event_lines place day made.start made.key made.schedule) line
      inside = search (rules, event_lines_forth)

  -- of the docker lines that a schedule has for one start day, no two tie in the order of docker
  -- lines
  pub schedule_piece_apart : (key : ScheduleKey) (lines : List (List ℕ)) (start : ℕ)
      → AreApart docker_line_cmp (schedule_piece trains place day key lines start)
  schedule_piece_apart = search (rules, event_lines_apart)

  -- the train of an event line starts on the docker's day or on one of the two days before it
  pub event_starts : HasGoodBodies live → (line : DockerLine) (made : IsEventLine live place day line) → Contains (start_days day) made.start
  event_starts good line made = (start_days_iff day made.start).1 (event_near live place day line good made)
