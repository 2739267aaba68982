-- The association lines of a docker. Each line says that two trains join at a place, that one
-- divides from the other, or that one becomes the other. These definitions accept any number as a
-- day, but dockers are made only for days 0 to 36524.
use Rattle.std.specs.Prelude.{◌≡◌, ℕ, ◌+◌, ◌-◌, Bool, ◌||◌, ◌⊎◌, ◌==◌, nat_lt, if◌then◌else◌, IsTrue, List, Option, Some, None, codes}
use Rattle.std.specs.Str.{bytes_eq}
use Rattle.docker_model.specs.records.Record.{columns, column}
use Rattle.docker_model.specs.records.Date.{last_day}
use Rattle.docker_model.specs.file.Journey.{Occasion, joining, dividing, next_working}
use Rattle.docker_model.specs.file.File.{first_record}
use Rattle.docker_model.specs.file.Change.{AssociationKey, ScheduleKey}
use Rattle.docker_model.specs.state.Table.{Table}
use Rattle.docker_model.specs.docker.Event.{Event, event_day, first_event_at}
use Rattle.docker_model.specs.docker.Choice.{TrainRuns, IsChosenAssociation, IsCancellation, group_of}
use Rattle.docker_model.specs.docker.DockerLine.{DockerLine, line_of_association}

-- converts the category of an association, a field of two bytes, to the occasion of its docker
-- line. `JJ` is a join, `VV` a division and `NP` a next working. Any other category has no
-- occasion, and an association with such a category has no docker line
abbrev pub category_occasion : List ℕ → Option Occasion
category_occasion category =
    if bytes_eq category (codes "JJ") then Some joining
    else (if bytes_eq category (codes "VV") then Some dividing else (if bytes_eq category (codes "NP") then Some next_working else None))

-- whether an association with this date indicator may have a docker line: the indicator is S, a
-- space, N or P
abbrev pub is_date_indicator : ℕ → Bool
is_date_indicator b = (b == 83) || (b == 32) || (b == 78) || (b == 80)

-- the day on which the associated train starts, from the association's date indicator and the day
-- on which the base train starts. For N the associated train starts on the next day, for P on the
-- day before, and otherwise on the same day. The result is `None` if that day is outside 0 to
-- 36524. For example, `partner_start 78 10` is `Some 11` (78 is N), and `partner_start 80 0` is
-- `None` (80 is P). The base train's start day must be from 0 to 36524
abbrev pub partner_start : ℕ → ℕ → Option ℕ
partner_start indicator day =
    if indicator == 78 then (if nat_lt day last_day then Some (day + 1) else None)
    else (if indicator == 80 then (if nat_lt 0 day then Some (day - 1) else None) else Some day)

-- no train of this UID starts on the day: either no schedule of the UID runs on that day, or the
-- chosen schedule is a cancellation
abbrev pub RunsNot : Table → List ℕ → ℕ → Type 0
RunsNot live uid day = (key : ScheduleKey) (lines : List (List ℕ)) → ¬ TrainRuns live uid day key lines

-- `identity` is the train identity that is printed for a UID on a day. If a train of the UID starts
-- on the day, the identity is taken from the train's basic schedule. Otherwise the identity is
-- `????`
abbrev pub IsIdentityOn : Table → List ℕ → List ℕ → ℕ → Type 0
IsIdentityOn live uid identity day =
    ((key : ScheduleKey) × (lines : List (List ℕ)) × TrainRuns live uid day key lines × (identity ≡ columns 33 36 (first_record lines)))
    ⊎ (RunsNot live uid day × (identity ≡ codes "????"))

-- like `IsIdentityOn`, for a day that may be `None`: if there is no day, the identity is `????`
abbrev pub IsPartnerIdentity : Table → List ℕ → Option ℕ → List ℕ → Type 0
IsPartnerIdentity live uid None identity = identity ≡ codes "????"
IsPartnerIdentity live uid (Some day) identity = IsIdentityOn live uid identity day

-- `line` is a docker line of an association, for the place and the day. The association is the
-- chosen association of its group on the base train's start day. The association isn't a
-- cancellation. Its category is a join, a division or a next working, and its date indicator is S,
-- a space, N or P. The base train's first event with the association's TIPLOC and suffix is at the
-- place, on the day
pub record IsAssociationLine (live : Table) (place : List ℕ) (day : ℕ) (line : DockerLine) : Type 0 where
  pub start : ℕ
  pub key : AssociationKey
  pub association : List ℕ
  pub chosen : IsChosenAssociation live (group_of key) start key association
  pub no_cancellation : ¬ IsCancellation key.indicator
  pub occasion : Occasion
  pub category : category_occasion (columns 35 36 association) ≡ Some occasion
  pub date_indicator : IsTrue (is_date_indicator (column 37 association))
  pub base_key : ScheduleKey
  pub base : List (List ℕ)
  pub base_runs : TrainRuns live key.base start base_key base
  pub event : Event
  pub first_there : first_event_at base key.location key.suffix ≡ Some event
  pub identity : List ℕ
  pub partner : IsPartnerIdentity live key.associated (partner_start (column 37 association) start) identity
  pub here : key.location ≡ place
  pub today : event_day start base event ≡ day
  pub is : line ≡ line_of_association occasion key.indicator base_key start base event key.associated identity
