-- The choice among the schedules of a UID, and among the associations of a group, on a day. These
-- definitions accept any number as a day, but dockers are made only for days 0 to 36524.
use Rattle.std.specs.Prelude.{◌≡◌, ℕ, Bool, false, ◌&&◌, nat_le, IsTrue, List, Option, Some, None}
use Rattle.std.specs.declared.cmp.Ordering.{Ordering}
use Rattle.std.specs.Ordering.{ordering_then, nat_cmp}
use Rattle.docker_model.specs.records.Record.{Kind, association, basic_schedule, kind_of, columns}
use Rattle.docker_model.specs.records.Date.{date_number, end_number, runs_on_weekday, weekday_of}
use Rattle.docker_model.specs.file.File.{first_record}
use Rattle.docker_model.specs.file.Change.{association_key, schedule_key, AssociationKey, ScheduleKey, association_body, schedule_body}
use Rattle.docker_model.specs.state.Order.{IsAtMost}
use Rattle.docker_model.specs.state.Table.{Table}

-- whether the day is from the first date to the last date, both included, and its weekday is among
-- the days run. Each date is a field of six bytes, and the days-run field has seven bytes
abbrev pub runs_within : List ℕ → List ℕ → List ℕ → ℕ → Bool
runs_within first last days day =
    nat_le (date_number first) day && nat_le day (end_number last) && runs_on_weekday days (weekday_of day)

-- whether this basic schedule runs on the day, according to its dates and its weekdays. The first
-- argument is the whole record
abbrev pub schedule_runs : List ℕ → ℕ → Bool
schedule_runs line day = runs_within (columns 10 15 line) (columns 16 21 line) (columns 22 28 line) day

-- whether this association runs on the day, according to its dates and its weekdays. The first
-- argument is the whole record
abbrev pub association_runs : List ℕ → ℕ → Bool
association_runs line day = runs_within (columns 16 21 line) (columns 22 27 line) (columns 28 34 line) day

-- whether this record, which has this kind, runs on the day. Only a basic schedule or an
-- association can run
abbrev pub runs_by_kind : Option Kind → List ℕ → ℕ → Bool
runs_by_kind (Some association) line day = association_runs line day
runs_by_kind (Some basic_schedule) line day = schedule_runs line day
runs_by_kind _ line day = false

-- whether this record, a basic schedule or an association, runs on the day
abbrev pub runs : List ℕ → ℕ → Bool
runs line day = runs_by_kind (kind_of line) line day

-- the STP indicator is C, which means that the schedule or the association is a cancellation
abbrev pub IsCancellation : ℕ → Type 0
IsCancellation indicator = indicator ≡ 67

-- the order of choice between two schedules or two associations, each given by its STP indicator
-- and its first date. The indicators are compared first, in the order C, N, O, P. If the indicators
-- are equal, the schedule or association with the later first date is chosen
abbrev pub choice_cmp : ℕ → ℕ → ℕ → ℕ → Ordering
choice_cmp indicator first other_indicator other_first = ordering_then (nat_cmp indicator other_indicator) (nat_cmp other_first first)

-- the order of choice between two schedules of one UID: the schedule that comes first is chosen
abbrev pub schedule_choice_cmp : ScheduleKey → ScheduleKey → Ordering
schedule_choice_cmp a b = choice_cmp a.indicator a.runs_from b.indicator b.runs_from

-- the order of choice between two associations of one group: the association that comes first is
-- chosen
abbrev pub association_choice_cmp : AssociationKey → AssociationKey → Ordering
association_choice_cmp a b = choice_cmp a.indicator a.start b.indicator b.start

-- the schedule with this key and these records is in the live table, belongs to the UID and runs on
-- the day. Several schedules of one UID may run on the same day
pub record IsRunning (live : Table) (uid : List ℕ) (day : ℕ) (key : ScheduleKey) (lines : List (List ℕ)) : Type 0 where
  pub uid_is : key.uid ≡ uid
  pub is_live : live (schedule_key key) ≡ Some (schedule_body lines)
  pub runs_then : IsTrue (schedule_runs (first_record lines) day)

-- the schedule with this key and these records is the chosen schedule of the UID on the day. Of all
-- schedules of the UID that run on the day, it comes first in the order of choice. For example, an
-- overlay is chosen before a permanent schedule, and a cancellation before both
pub record IsChosen (live : Table) (uid : List ℕ) (day : ℕ) (key : ScheduleKey) (lines : List (List ℕ)) : Type 0 where
  pub running : IsRunning live uid day key lines
  pub first : (other : ScheduleKey) (others : List (List ℕ)) → IsRunning live uid day other others → IsAtMost schedule_choice_cmp key other

-- a train of the UID starts on the day and runs according to this schedule: the schedule is the
-- chosen schedule, and isn't a cancellation
pub record TrainRuns (live : Table) (uid : List ℕ) (day : ℕ) (key : ScheduleKey) (lines : List (List ℕ)) : Type 0 where
  pub chosen : IsChosen live uid day key lines
  pub no_cancellation : ¬ IsCancellation key.indicator

-- the group of an association: the base train with its suffix, the associated train and the timing
-- point. For each day one association of a group is chosen
pub record Group : Type 0 where
  pub base : List ℕ
  pub associated : List ℕ
  pub location : List ℕ
  pub suffix : ℕ

-- the group to which an association with this key belongs
abbrev pub group_of : AssociationKey → Group
group_of key = record { base = key.base; associated = key.associated; location = key.location; suffix = key.suffix }

-- the association with this key and this record is in the live table, belongs to the group and runs
-- on the day. The dates of an association are start days of the base train
pub record IsAssociated (live : Table) (group : Group) (day : ℕ) (key : AssociationKey) (line : List ℕ) : Type 0 where
  pub group_is : group_of key ≡ group
  pub is_live : live (association_key key) ≡ Some (association_body line)
  pub runs_then : IsTrue (association_runs line day)

-- the association with this key and this record is the chosen association of the group on the day.
-- Of all associations of the group that run on the day, it comes first in the order of choice
pub record IsChosenAssociation (live : Table) (group : Group) (day : ℕ) (key : AssociationKey) (line : List ℕ) : Type 0 where
  pub associated : IsAssociated live group day key line
  pub first : (other : AssociationKey) (others : List ℕ) → IsAssociated live group day other others → IsAtMost association_choice_cmp key other

-- a schedule according to which a train may run: its key and its records
pub record Train : Type 0 where
  pub key : ScheduleKey
  pub lines : List (List ℕ)

-- if the option is a schedule, it is the UID's chosen schedule on the day, which may be a
-- cancellation. If the option is `None`, no schedule of the UID runs on the day
abbrev pub IsChosenOn : Table → List ℕ → ℕ → Option Train → Type 0
IsChosenOn live uid day None = (key : ScheduleKey) (lines : List (List ℕ)) → ¬ IsRunning live uid day key lines
IsChosenOn live uid day (Some train) = IsChosen live uid day train.key train.lines
