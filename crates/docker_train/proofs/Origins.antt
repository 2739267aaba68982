-- The schedule found for a UID and a day is unique. The schedule came from one of the state's
-- files. Each train on a docker's lines, or on a list of trains, runs according to the schedule
-- found for it.
use Rattle.cif_laws.proofs.Common.{◌≡◌, ℕ, ◌+◌, ◌≤◌, List, ap, sym, ◌∙◌, subst, Some, None, Contains, rules, Option, option_map, IsTrue, cases_lt, leb-true}
use Rattle.cif_laws.proofs.Common.{columns, IsDay, end_number, no_end_number, first_record, Body, Act, Change, ScheduleKey, changes, schedule_key}
use Rattle.cif_laws.proofs.Common.{schedule_body, put, Stamp, file_stamp_of, Op, put_with, Entry, op_of, readable_end, State, IsValid, live_table, IsDayRefused}
use Rattle.cif_laws.proofs.Common.{lapse, lapse_table, Table, IsPlainTable, IsSummary, IsRunning, TrainRuns, Train, IsChosenOn, DockerLine, IsEventLine}
use Rattle.cif_laws.proofs.Common.{IsAssociationLine, Stamped, IsStampOf, IsTrainText}
use Rattle.docker_model.specs.docker.Choice.{runs_within}
use Rattle.cif_laws.proofs.lists.BoolsAndOptions.{both}
use Rattle.state_laws.proofs.joins.StagedEntry.{entry_at_iff}
use Rattle.state_laws.proofs.states.TableLapsed.{live_stays}
use Rattle.state_laws.proofs.states.PlainLive.{live_is_lapsed_plain}
use Rattle.docker_laws.proofs.dockers.TrainOfRows.{one_answer}
use Rattle.docker_laws.proofs.dockers.LapsedChoice.{chosen_iff}
use Rattle.docker_laws.proofs.dockers.PrintedDocker.{day_bound}
use Rattle.state_laws.proofs.states.GoodBodies.{good_bodies}
use Rattle.docker_laws.proofs.dockers.NearStarts.{event_near, association_near}
use Rattle.train_choice.specs.Along.{IsLiveTrain}
use Rattle.docker_model.specs.lists.TrainText.{IsFoundFor}
use Rattle.docker_train.specs.Origin.{CameFrom, IsFoundToRun, change_of}
use Rattle.docker_model.specs.lists.TrainsText.{IsListed}
use Rattle.docker_train.proofs.Found.{stamp_is, entry_there}

-- ---- at most one schedule is found

stamp_in : Stamp → Option Entry → Stamp
stamp_in other None = other
stamp_in other (Some entry) = entry.stamp

one_stamp : (state : State) (train other : Train) (stamp its : Stamp) → train ≡ other → IsStampOf state train stamp → IsStampOf state other its → stamp ≡ its
unfolding stamp_in
one_stamp = search (rules, stamp_in)

some_same : {A : Type 0} (a b : A) → Some a ≡ Some b → a ≡ b
some_same a b h = cc

-- in a state, at most one schedule with its stamp is found for a UID and a day
pub one_found : (state : State) (uid : List ℕ) (day : ℕ) (a b : Option Stamped) → IsFoundFor state uid day a → IsFoundFor state uid day b → a ≡ b
one_found = search (rules, some_same, one_answer, one_stamp)

-- a state has at most one train text for a UID and a day
pub one_text : (state : State) (uid : List ℕ) (day : ℕ) (text other : List ℕ) → IsTrainText state uid day text → IsTrainText state uid day other → text ≡ other
one_text = search (rules, one_found)

-- ---- the extract that a schedule came from

put_under : (horizon : ℕ) (op : Op) (body : Body) → lapse horizon op ≡ put_with body → op ≡ put_with body
put_under = search rules

act_of_put : (act : Act) (body : Body) → op_of act ≡ put_with body → act ≡ put body
act_of_put = search rules

-- a schedule that is found in the summary of a set of files came from one of these files
pub came_from : (files : List (List (List ℕ))) (horizon : ℕ) (state : State) (uid : List ℕ) (day : ℕ) (found : Stamped) → IsSummary files horizon state
    → IsFoundFor state uid day (Some found) → CameFrom files found
came_from files horizon state uid day found is (chosen, at) =
    let body = schedule_body found.schedule.lines in
    let entry : Entry = record { stamp = found.stamp; op = put_with body } in
    let made = (is.entries (schedule_key found.schedule.key) entry).0 ((entry_at_iff state is.entries_ascend _ entry).0 at) in
    let from = made.1.is in
    let stamps : record { file = file_stamp_of from.file; number = from.change.number } ≡ found.stamp =
    ap (λ (e : Entry). e.stamp) from.entry_is ∙ ap (λ (e : Entry). e.stamp) made.2 in
    let act_is : from.change.act ≡ put body =
    act_of_put _ body (ap (λ (e : Entry). e.op) from.entry_is ∙ put_under _ made.0.op _ (ap (λ (e : Entry). e.op) made.2)) in
    let change_is : from.change ≡ change_of found = λ i. record { number = (stamps i).number; key = from.key_is i; act = act_is i } in
    record {
      file = from.file;
      among = from.kept.among;
      stamped = ap (λ (s : Stamp). s.file) stamps;
      changed = subst (λ (c : Change). Contains (changes from.file) c) change_is from.among;
    }

-- ---- the plain table

within_end : (first last days : List ℕ) (day : ℕ) → IsTrue (runs_within first last days day) → day ≤ end_number last
within_end = search (rules, both, leb-true)

end_reached : (horizon day : ℕ) (last : List ℕ) → horizon ≤ no_end_number → horizon ≤ day → day ≤ end_number last → horizon ≤ readable_end last
end_reached = search rules

still_runs : (horizon : ℕ) (table : Table) (uid : List ℕ) (day : ℕ) (key : ScheduleKey) (lines : List (List ℕ)) → horizon ≤ no_end_number → horizon ≤ day
    → IsRunning table uid day key lines → IsRunning (lapse_table horizon table) uid day key lines
still_runs horizon table uid day key lines bound from is = record {
  uid_is = is.uid_is;
  is_live = live_stays horizon table (schedule_key key) (schedule_body lines) is.is_live
      (end_reached horizon day (columns 16 21 (first_record lines)) bound from
      (within_end (columns 10 15 (first_record lines)) (columns 16 21 (first_record lines)) (columns 22 28 (first_record lines)) day is.runs_then));
  runs_then = is.runs_then;
}

-- on a day that isn't before the horizon, lapsing doesn't change which schedule is chosen: the
-- schedule chosen from `lapse_table horizon table` is also chosen from `table`
chosen_unlapsed : (horizon : ℕ) (table : Table) (uid : List ℕ) (day : ℕ) (found : Option Train) → horizon ≤ no_end_number → horizon ≤ day
    → IsChosenOn (lapse_table horizon table) uid day found → IsChosenOn table uid day found
chosen_unlapsed horizon table uid day None bound from none = λ key lines runs. none key lines (still_runs horizon table uid day key lines bound from runs)
chosen_unlapsed horizon table uid day (Some train) bound from is = (chosen_iff horizon bound table day from uid train.key train.lines).1 is

schedules_are : (state : State) (uid : List ℕ) (day : ℕ) (found : Option Stamped) → IsFoundFor state uid day found
    → IsChosenOn (live_table state) uid day (option_map (λ (it : Stamped). it.schedule) found)
schedules_are = search rules

-- on a day that isn't before the horizon, the schedule found in the summary of a set of files is
-- the schedule chosen from the files' plain table
pub found_is_plain : (files : List (List (List ℕ))) (horizon : ℕ) (state : State) (table : Table) (uid : List ℕ) (day : ℕ) (found : Option Stamped)
    → IsSummary files horizon state → IsPlainTable files table → IsDay horizon → horizon ≤ day → IsFoundFor state uid day found
    → IsChosenOn table uid day (option_map (λ (it : Stamped). it.schedule) found)
found_is_plain files horizon state table uid day found is plain is_day from found_is =
    let there = option_map (λ (it : Stamped). it.schedule) found in
    chosen_unlapsed horizon _ uid _ there (day_bound _ is_day) from
    (subst (λ (live : Table). IsChosenOn live uid day there) (live_is_lapsed_plain files _ state _ is plain) (schedules_are state _ day _ found_is))

-- ---- the trains of a docker or a list

live_has_stamp : (state : State) (train : Train) → IsLiveTrain (live_table state) train → (stamp : Stamp) × IsStampOf state train stamp
live_has_stamp = search (rules, entry_there, stamp_is)

answered_from : (horizon start day : ℕ) → ¬ IsDayRefused horizon day → day ≤ start + 2 → horizon ≤ start
answered_from = search (rules, cases_lt)

found_to_run : (state : State) (start day : ℕ) (key : ScheduleKey) (lines : List (List ℕ)) → ¬ IsDayRefused state.horizon day → day ≤ start + 2
    → TrainRuns (live_table state) key.uid start key lines → IsFoundToRun state key.uid start (record { key = key; lines = lines })
found_to_run state start day key lines open_day near runs =
    let stamped = live_has_stamp state (record { key = key; lines = lines }) runs.chosen.running.is_live in record {
      answered = answered_from state.horizon start day open_day near;
      stamp = stamped.0;
      found = (runs.chosen, stamped.1);
      runs = runs.no_cancellation;
    }

-- for each train of a list, the schedule according to which the train runs is the schedule found for
-- the train's UID on the day
pub listed_found : (state : State) (identity : List ℕ) (day : ℕ) (train : Train) → state.horizon ≤ day
    → IsListed (live_table state) identity day train → IsFoundToRun state train.key.uid day train
listed_found = search (rules, live_has_stamp)

-- for each event on a docker, the schedule of the event's train is the schedule found for the
-- train's UID and start day
pub event_train : (state : State) (place : List ℕ) (day : ℕ) (line : DockerLine) → IsValid state → ¬ IsDayRefused state.horizon day
    → (made : IsEventLine (live_table state) place day line)
    → IsFoundToRun state line.uid line.start (record { key = made.key; lines = made.schedule })
event_train state place day line valid open_day made =
    let near = event_near (live_table state) place day line (good_bodies state valid) made in
    rw made.is (found_to_run state made.start day made.key made.schedule open_day near.1 made.train_runs)

-- for each association on a docker, the schedule of the base train is the schedule found for the
-- base train's UID and start day
pub base_train : (state : State) (place : List ℕ) (day : ℕ) (line : DockerLine) → IsValid state → ¬ IsDayRefused state.horizon day
    → (made : IsAssociationLine (live_table state) place day line)
    → IsFoundToRun state line.uid line.start (record { key = made.base_key; lines = made.base })
base_train state place day line valid open_day made =
    let near = association_near (live_table state) place day line (good_bodies state valid) made in
    let runs : TrainRuns (live_table state) made.base_key.uid made.start made.base_key made.base =
    subst (λ (uid : List ℕ). TrainRuns (live_table state) uid made.start made.base_key made.base) (sym made.base_runs.chosen.running.uid_is) made.base_runs in
    rw made.is (found_to_run state made.start day made.base_key made.base open_day near.1 runs)
