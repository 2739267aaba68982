-- On which of three days a schedule runs. The three days are a given day and the two days before
-- it.
use Rattle.std.specs.Prelude.{◌≡◌, ℕ, Bool, ◌&&◌, ◌||◌, ◌-◌, not, List, nat_le, nat_lt}
use Rattle.docker_model.specs.records.Record.{columns}
use Rattle.docker_model.specs.records.Date.{end_number, runs_on_weekday, weekday_of}
use Rattle.docker_model.specs.file.File.{first_record}
use Rattle.docker_model.specs.file.Change.{ScheduleKey}
use Rattle.docker_model.specs.docker.Choice.{schedule_runs}
use Rattle.train_choice.specs.declared.recent_runs.RecentRuns.{RecentRuns}

-- says that the three flags are `test 0`, `test 1` and `test 2`. `test n` says whether the schedule runs on the day `n` days before the given day
pub record AreRecentRuns (test : ℕ → Bool) (recent : RecentRuns) : Type 0 where
  pub today_is : recent.today ≡ test 0
  pub day_before_is : recent.day_before ≡ test 1
  pub two_before_is : recent.two_before ≡ test 2

-- whether the schedule runs on the day `back` days before `day`
abbrev pub runs_back : List (List ℕ) → ℕ → ℕ → Bool
runs_back lines day back = nat_le back day && schedule_runs (first_record lines) (day - back)

-- whether the day `back` days before `day` exists, isn't before the first date, and falls on a
-- weekday that is among the days run
abbrev pub begun_back : List ℕ → ℕ → ℕ → ℕ → Bool
begun_back days first day back = nat_le back day && (nat_le first (day - back) && runs_on_weekday days (weekday_of (day - back)))

-- whether the day `back` days before `day` isn't after the last date
abbrev pub lasts_back : ℕ → ℕ → ℕ → Bool
lasts_back last day back = nat_le (day - back) last

-- whether the schedule runs on the day `back` days before `day`, computed from its first date and
-- the fields of its basic schedule
abbrev pub runs_back_by_fields : List ℕ → ℕ → ℕ → ℕ → Bool
runs_back_by_fields line first day back = begun_back (columns 22 28 line) first day back && lasts_back (end_number (columns 16 21 line)) day back

-- whether the day `back` days before `day` exists and falls on a weekday that is among the days run
abbrev pub marked_back : List ℕ → ℕ → ℕ → Bool
marked_back days day back = nat_le back day && runs_on_weekday days (weekday_of (day - back))

-- whether the schedule may run on one of three days: the day and the two days before it. That is so
-- if its runs-from date isn't after the day, and at least one of the three weekdays is among its
-- days run
abbrev pub may_run_recently : ScheduleKey → List (List ℕ) → ℕ → Bool
may_run_recently key lines day = not (nat_lt day key.runs_from)
    && (marked_back (columns 22 28 (first_record lines)) day 0 || marked_back (columns 22 28 (first_record lines)) day 1
    || marked_back (columns 22 28 (first_record lines)) day 2)
