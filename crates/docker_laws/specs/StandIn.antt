-- Two tables with the same docker for one place and one day. The tables may have different records
-- for schedules that have no event at the place on the day.
use Rattle.std.specs.Prelude.{◌≡◌, ℕ, ◌+◌, ◌≤◌, ◌⊎◌, true, IsTrue, List, Some, Contains}
use Rattle.docker_model.specs.records.Record.{columns}
use Rattle.docker_model.specs.file.File.{first_record}
use Rattle.docker_model.specs.file.Change.{tiploc_key, association_key, schedule_key, AssociationKey, ScheduleKey, schedule_body}
use Rattle.docker_model.specs.state.Table.{Table}
use Rattle.docker_model.specs.docker.Event.{Event, events_of, event_day, event_line}
use Rattle.docker_model.specs.docker.Choice.{schedule_runs}
use Rattle.docker_laws.specs.NearDay.{near_starts, runs_near}

-- a train that starts on this start day, with these records, has an event at the place on the day
pub record HasEventOn (place : List ℕ) (day start : ℕ) (lines : List (List ℕ)) : Type 0 where
  pub event : Event
  pub among : Contains (events_of lines) event
  pub here : columns 3 9 (event_line lines event) ≡ place
  pub today : event_day start lines event ≡ day

-- `lines` may replace the schedule `whole` in the docker of the place and the day. Both run on the
-- same start days near the day, and have the same train identity. If the train has an event at the
-- place on the day, for a start day on which it runs, the two are equal. This start day is the day
-- or one of the two days before it
pub record IsStandIn (place : List ℕ) (day : ℕ) (whole lines : List (List ℕ)) : Type 0 where
  pub runs : (start : ℕ) → Contains (near_starts day) start → schedule_runs (first_record whole) start ≡ schedule_runs (first_record lines) start
  pub identity : columns 33 36 (first_record whole) ≡ columns 33 36 (first_record lines)
  pub calls : (start : ℕ) → start ≤ day → day ≤ start + 2 → IsTrue (schedule_runs (first_record whole) start)
      → HasEventOn place day start whole ⊎ HasEventOn place day start lines → whole ≡ lines

-- `part` may replace `live` in the docker of the place and the day. Both have the same body at the
-- place's TIPLOC, and the same associations at the place. For each schedule of one table that runs
-- on a start day near the day, the other table has, at the same key, a schedule that may replace it
pub record StandsFor (place : List ℕ) (day : ℕ) (live part : Table) : Type 0 where
  pub tiploc : part (tiploc_key place) ≡ live (tiploc_key place)
  pub associations : (key : AssociationKey) → key.location ≡ place → part (association_key key) ≡ live (association_key key)
  pub schedules : (key : ScheduleKey) (whole : List (List ℕ)) → live (schedule_key key) ≡ Some (schedule_body whole)
      → runs_near day (first_record whole) ≡ true
      → (lines : List (List ℕ)) × (part (schedule_key key) ≡ Some (schedule_body lines)) × IsStandIn place day whole lines
  pub no_others : (key : ScheduleKey) (lines : List (List ℕ)) → part (schedule_key key) ≡ Some (schedule_body lines)
      → runs_near day (first_record lines) ≡ true
      → (whole : List (List ℕ)) × (live (schedule_key key) ≡ Some (schedule_body whole)) × IsStandIn place day whole lines
