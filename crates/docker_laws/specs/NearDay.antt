-- The entries of a state that may count for the dockers of one day: all entries except schedules
-- that run on no start day near the day. A start day is near the day if a train that starts on it
-- matters to these dockers. Such a train can have an event on the day, or be the associated train
-- of a train with an event on the day.
use Rattle.std.specs.Prelude.{ℕ, ◌+◌, ◌-◌, Bool, true, ◌||◌, ◌&&◌, nat_lt, List, [], ◌∷◌, filter}
use Rattle.std.specs.List.{list_any}
use Rattle.docker_model.specs.file.Change.{Key, schedule_body}
use Rattle.docker_model.specs.file.File.{first_record}
use Rattle.docker_model.specs.file.Journey.{midnights}
use Rattle.docker_model.specs.state.Op.{Op, put_with, Entry}
use Rattle.docker_model.specs.state.State.{State}
use Rattle.docker_model.specs.docker.Choice.{schedule_runs}

-- the start days near a day: from three days before it to one day after it. For example, the start
-- days near day 10 are 7 to 11
abbrev pub near_starts : ℕ → List ℕ
near_starts day = (day + 1) ∷ day ∷ (day - 1) ∷ (day - 2) ∷ (day - 3) ∷ []

-- whether a schedule runs on a start day near the day. The second argument is the schedule's first
-- record
abbrev pub runs_near : ℕ → List ℕ → Bool
runs_near day line = list_any (λ start. schedule_runs line start) (near_starts day)

-- whether an event of a schedule may be on the day. The schedule runs on the day, or it passes
-- midnight and runs on one of the two days before. The second argument has the schedule's records
abbrev pub may_reach : ℕ → List (List ℕ) → Bool
may_reach day lines =
    schedule_runs (first_record lines) day
    || (nat_lt 0 (midnights lines) && (schedule_runs (first_record lines) (day - 1) || schedule_runs (first_record lines) (day - 2)))

-- whether an op may count on the day. A put of a schedule may count if and only if the schedule
-- runs on a start day near the day, and any other op may count
abbrev pub may_count : ℕ → Op → Bool
may_count day (put_with (schedule_body lines)) = runs_near day (first_record lines)
may_count day op = true

-- the entries that may count on the day
abbrev pub near_entries : ℕ → List (Key × Entry) → List (Key × Entry)
near_entries day entries = filter (λ entry. may_count day entry.1.op) entries

-- the state with only the entries that may count on the day
abbrev pub near_state : ℕ → State → State
near_state day state = record { horizon = state.horizon; ledger = state.ledger; entries = near_entries day state.entries }
