-- Rows that are skipped without a search have no docker lines.
use Rattle.cif_laws.proofs.Common.{◌≡◌, ℕ, ◌-◌, ◌<◌, ◌⊎◌, Bool, true, false, cond, List, rules, common_steps, [], ◌∷◌, ◌++◌, refl, ap, sym, ◌∙◌, append-nil}
use Rattle.cif_laws.proofs.Common.{Some, None, arith, eqb-true, Option, ◌&&◌, ◌||◌, not, nat_le, is_eq, Ordering, Equal, leb-true, column, first_record, Key}
use Rattle.cif_laws.proofs.Common.{ScheduleKey, Body, schedule_key_cmp, association_key_cmp, Table, IsBodyOf, Row, AreRowsOf, schedule_runs, association_runs}
use Rattle.cif_laws.proofs.Common.{group_of, DockerLine, Detail}
use Rattle.docker_model.specs.docker.Association.{is_date_indicator}
use Rattle.docker_model.specs.docker.Choice as choices
use Rattle.docker_laws.specs.LiveRows as live_rows
use Rattle.docker_laws.specs.LiveRows.{train_in, link_in, IsTrainOn, IsLinkOn}
use Rattle.docker_laws.specs.Gathering.{event_lines, runs_by, counts_as, is_in_force}
use Rattle.cif_laws.proofs.orders.Orders.{exact_schedule_key, exact_association_key}
use Rattle.docker_laws.proofs.dockers.OneChoice.{one_schedule, one_association}
use Rattle.docker_laws.proofs.dockers.TrainOfRows.{trains_tell}
use Rattle.docker_laws.proofs.dockers.LinkOfRows.{links_tell}
use Rattle.train_choice.specs.Occurrences.{Occurrence}
use Rattle.train_choice.specs.UpTo.{occurrences_to}
use Rattle.train_choice.specs.Along.{IsLiveTrain, IsLiveLink}
use Rattle.train_choice.specs.Midnights.{some_late}
use Rattle.docker_day.specs.Lines.{lines_there, schedule_piece, Adds}
use Rattle.docker_day.specs.RowViews.{IsLiveView, row_back, row_runs_recently, row_may_run, row_under_way, view_lines, view_of}
use Rattle.docker_day.specs.declared.row_view.RowView.{RowView}
use Rattle.docker_day.specs.declared.row_view.RowView.TheVariants.{Train}
use Rattle.train_choice.specs.RecentRuns.{runs_back}
use Rattle.train_choice.specs.Ranked.{is_cancellation}
use Rattle.train_choice.proofs.RecentDays.{idle_recently}
use Rattle.docker_day.proofs.TrainLines.{event_lines_are}
use Rattle.docker_day.proofs.UpToLast.{lines_to_last}
use Rattle.docker_day.proofs.LinkLines.{three_backs}

true_false : true ≡ false → ⊥
true_false bad = cc

not_equal : (order : Ordering) → (order ≡ Equal → ⊥) → is_eq order ≡ false
not_equal = search rules

-- if a live schedule doesn't run on a day, no train runs according to this schedule on that day
pub runs_not : (live : Table) (rows : List Row) (train : choices.Train) (start : ℕ) → AreRowsOf live rows → IsLiveTrain live train
    → schedule_runs (first_record train.lines) start ≡ false → runs_by (train_in rows train.key.uid start) train.key ≡ false
runs_not live rows train start are is_live idle = by (train_in rows train.key.uid start) (trains_tell live rows are train.key.uid start)
  where
    by : (found : Option choices.Train) → IsTrainOn live train.key.uid start found → runs_by found train.key ≡ false
    by None none = refl
    by (Some other) runs = not_equal (schedule_key_cmp other.key train.key) (λ same. true_false (sym runs.chosen.running.runs_then
        ∙ ap (λ (ls : List (List ℕ)). schedule_runs (first_record ls) start) (one_schedule live other.key train.key other.lines train.lines
        (exact_schedule_key other.key train.key same) runs.chosen.running.is_live is_live) ∙ idle))

-- a live association that doesn't run on a start day isn't the association chosen in its group
pub counts_not : (live : Table) (rows : List Row) (link : live_rows.Link) (start : ℕ) → AreRowsOf live rows → IsLiveLink live link
    → association_runs link.line start ≡ false → counts_as (link_in rows (group_of link.key) start) link.key ≡ false
counts_not live rows link start are is_live idle = by (link_in rows (group_of link.key) start) (links_tell live rows are (group_of link.key) start)
  where
    by : (found : Option live_rows.Link) → IsLinkOn live (group_of link.key) start found → counts_as found link.key ≡ false
    by None none = refl
    by (Some other) chosen = not_equal (association_key_cmp other.key link.key) (λ same. true_false (sym chosen.associated.runs_then
        ∙ ap (λ (l : List ℕ). association_runs l start) (one_association live other.key link.key other.line link.line
        (exact_association_key other.key link.key same) chosen.associated.is_live is_live) ∙ idle))

and_false : (a b : Bool) → b ≡ false → (a && b) ≡ false
and_false = search rules

not_not : (b : Bool) → not b ≡ false → b ≡ true
not_not = search (rules, true_false)

-- if no midnight is passed before any event, no docker line is on a day later than the start day
none_late : (place : List ℕ) (day start : ℕ) (key : ScheduleKey) (detail : Detail) (events : List Occurrence) → start < day → some_late events ≡ false
    → lines_there place day start key detail events ≡ []
none_late place day start key detail [] before none = refl
none_late place day start key detail (event ∷ events) before none =
    grind (common_steps, arith, eqb-true, and_false, not_not, true_false, (none_late place day start key detail events before))

-- if a train doesn't pass midnight up to its last record at a place, it has no docker line at this
-- place on a day later than the start day
no_lines_then : (place : List ℕ) (day start : ℕ) (key : ScheduleKey) (lines : List (List ℕ)) → start < day
    → some_late (occurrences_to place lines) ≡ false → event_lines place day start key lines ≡ []
no_lines_then = search (rules, event_lines_are, lines_to_last, none_late)

-- if `(a || b) && c` is false, then `a` and `b` are both false, or `c` is false
none_of_both : (a b c : Bool) → ((a || b) && c) ≡ false → ((a ≡ false) × (b ≡ false)) ⊎ (c ≡ false)
none_of_both = search (rules, true_false)

-- if the disjunction of three tests is false, each test is false
none_of_three : (a b c : Bool) → (a || b || c) ≡ false → (a ≡ false) × (b ≡ false) × (c ≡ false)
none_of_three = search (rules, true_false)

module _ (live : Table) (rows : List Row) (are : AreRowsOf live rows) (place : List ℕ) (day : ℕ) where
  abbrev lines_back : RowView → ℕ → List DockerLine
  lines_back view back = row_back (train_in rows) (link_in rows) place day view back

  -- a schedule that doesn't run on a day has no docker lines with this day as the start day
  idle_back : (train : choices.Train) (back : ℕ) → IsLiveTrain live train → runs_back train.lines day back ≡ false
      → lines_back (Train train) back ≡ []
  idle_back train back is_live idle = by (nat_le back day) refl
    where
      by : (b : Bool) → nat_le back day ≡ b → cond b (schedule_piece (train_in rows) place day train.key train.lines (day - back)) [] ≡ []
      by false h = refl
      by true h = (λ i. cond (runs_not _ _ _ _ are is_live ((λ j. sym h j && schedule_runs (first_record train.lines) (day - back)) ∙ idle) i)
          (event_lines place day (day - back) train.key train.lines) [])

  -- if a train doesn't pass midnight up to its last record at the place, it has no docker line for
  -- a start day before the day
  early_back : (train : choices.Train) (back : ℕ) → 0 < back → some_late (occurrences_to place train.lines) ≡ false
      → lines_back (Train train) back ≡ []
  early_back = search (rules, leb-true, no_lines_then)

  -- if, according to `row_under_way`, a row can't have lines for a train that started before the
  -- day, the row has no lines for a start day before the day
  pub none_back : (view : RowView) → IsLiveView live view → row_under_way place view day ≡ false
      → (lines_back view 1 ≡ []) × (lines_back view 2 ≡ [])
  none_back = search (rules, none_of_both, idle_back, early_back, true_false)

  -- if `row_runs_recently` says that a row can't have lines on the day, the row has no lines for
  -- the three start days: the day and the two days before it
  none_recently : (view : RowView) → IsLiveView live view → row_runs_recently view day ≡ false
      → (lines_back view 0 ≡ []) × (lines_back view 1 ≡ []) × (lines_back view 2 ≡ [])
  none_recently = search (rules, none_of_three, idle_back, true_false)

-- appending an empty list leaves the lines unchanged
nothing : (before : List DockerLine) {more : List DockerLine} → more ≡ [] → before ≡ before ++ more
nothing before none = sym (append-nil before) ∙ ap (λ out. before ++ out) (sym none)

-- suppose that, according to `row_under_way`, a row can't have lines for a train that started
-- before the day. Then all lines of the row are for the train that starts on the day itself
pub first_back_alone : (place : List ℕ) (day : ℕ) (view : RowView) (live : Table) (first second : List DockerLine) → IsLiveView live view
    → row_under_way place view day ≡ false → Adds live (λ trains links. row_back trains links place day view 0) first second
    → Adds live (λ trains links. view_lines trains links place day view) first second
first_back_alone place day view live first second is_live not_so one = three_backs place _ view _ first _ second _ one
    (λ rows are. nothing second (none_back _ rows are place day view is_live not_so).0)
    (λ rows are. nothing second (none_back _ rows are place day view is_live not_so).1)

-- if `row_runs_recently` says that a row can't have lines on the day, there are no lines of the row
-- to append
pub not_recently : (place : List ℕ) (day : ℕ) (view : RowView) (live : Table) (first : List DockerLine) → IsLiveView live view
    → row_runs_recently view day ≡ false → Adds live (λ trains links. view_lines trains links place day view) first first
not_recently place day view live first is_live not_so = three_backs place _ view _ first _ first _
    (λ rows are. nothing first (none_recently _ rows are place day view is_live not_so).0)
    (λ rows are. nothing first (none_recently _ rows are place day view is_live not_so).1)
    (λ rows are. nothing first (none_recently _ rows are place day view is_live not_so).2)

-- if `row_may_run` says that a row can't have lines on the day, `row_runs_recently` says this too
pub row_idle : (key : Key) (body : Body) (day : ℕ) → IsBodyOf key body → row_may_run (view_of key body) day ≡ false
    → row_runs_recently (view_of key body) day ≡ false
row_idle = search (rules, idle_recently, true_false)

-- an association that doesn't run on a start day isn't in force on that start day
pub not_in_force : (live : Table) (rows : List Row) (link : live_rows.Link) (start : ℕ) → AreRowsOf live rows → IsLiveLink live link
    → association_runs link.line start ≡ false → false ≡ is_in_force (link_in rows) start link.key link.line
not_in_force live rows link start are is_live idle =
    (λ i. (sym (counts_not live rows link start are is_live idle) i && not (is_cancellation link.key.indicator)) && is_date_indicator (column 37 link.line))
