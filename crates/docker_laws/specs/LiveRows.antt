-- A live table as a list of rows. The rows determine the train of a UID on a day, and the chosen
-- association of a group on a start day of the base train.
use Rattle.std.specs.Prelude.{◌≡◌, ℕ, List, Some, Contains, Option, None, Bool, ◌&&◌, not, find, ◌==◌, if◌then◌else◌}
use Rattle.std.specs.List.{filter_map, list_all}
use Rattle.std.specs.Str.{bytes_eq}
use Rattle.std.specs.Ordering.{is_gt}
use Rattle.docker_model.specs.file.File.{first_record}
use Rattle.docker_model.specs.file.Change.{Key, schedule_key, ScheduleKey, Body, schedule_body, association_key, AssociationKey, association_body}
use Rattle.docker_model.specs.state.Table.{Table}
use Rattle.docker_model.specs.state.Row.{Row}
use Rattle.docker_model.specs.docker.Choice.{Train, Group, group_of, schedule_runs, schedule_choice_cmp, association_runs}
use Rattle.docker_model.specs.docker.Choice.{association_choice_cmp, TrainRuns, IsChosenAssociation}
use Rattle.docker_model.specs.docker.Association.{RunsNot}

-- each row is in the live table, and the rows include every schedule of the UID
pub record HasSchedulesOf (live : Table) (uid : List ℕ) (rows : List Row) : Type 0 where
  pub each : (key : Key) (body : Body) → Contains rows (key, body) → live key ≡ Some body
  pub all : (key : ScheduleKey) (lines : List (List ℕ)) → key.uid ≡ uid → live (schedule_key key) ≡ Some (schedule_body lines)
      → Contains rows (schedule_key key, schedule_body lines)

-- each row is in the live table, and the rows include every association of the group
pub record HasAssociationsOf (live : Table) (group : Group) (rows : List Row) : Type 0 where
  pub each : (key : Key) (body : Body) → Contains rows (key, body) → live key ≡ Some body
  pub all : (key : AssociationKey) (line : List ℕ) → group_of key ≡ group → live (association_key key) ≡ Some (association_body line)
      → Contains rows (association_key key, association_body line)

-- no row has a schedule of the UID
abbrev pub HasNoScheduleOf : List ℕ → List Row → Type 0
HasNoScheduleOf uid rows = (key : ScheduleKey) (body : Body) → Contains rows (schedule_key key, body) → ¬ (key.uid ≡ uid)

-- no row has an association of the group
abbrev pub HasNoAssociationOf : Group → List Row → Type 0
HasNoAssociationOf group rows = (key : AssociationKey) (body : Body) → Contains rows (association_key key, body) → ¬ (group_of key ≡ group)

-- an association: its key and its record
pub record Link : Type 0 where
  pub key : AssociationKey
  pub line : List ℕ

-- the schedule in a row, or `None` if the row has no schedule
abbrev pub schedule_of : Key → Body → Option Train
schedule_of (schedule_key key) (schedule_body lines) = Some (record { key = key; lines = lines })
schedule_of _ _ = None

-- the association in a row, or `None` if the row has no association
abbrev pub association_of : Key → Body → Option Link
association_of (association_key key) (association_body line) = Some (record { key = key; line = line })
association_of _ _ = None

-- the schedules in these rows
abbrev pub schedules_in : List Row → List Train
schedules_in rows = filter_map (λ row. schedule_of row.0 row.1) rows

-- the associations in these rows
abbrev pub associations_in : List Row → List Link
associations_in rows = filter_map (λ row. association_of row.0 row.1) rows

-- whether the schedule has the UID and runs on the day
abbrev pub is_running : List ℕ → ℕ → Train → Bool
is_running uid day train = bytes_eq train.key.uid uid && schedule_runs (first_record train.lines) day

-- whether this schedule is the choice for the UID on the day. Of the UID's schedules in the list
-- that run on the day, this schedule comes first in the order of choice
abbrev pub is_choice : List Train → List ℕ → ℕ → Train → Bool
is_choice trains uid day train =
    is_running uid day train
    && list_all (λ other. not (is_running uid day other && is_gt (schedule_choice_cmp train.key other.key))) trains

-- of the UID's schedules in these rows, the schedule that is chosen for the day. The result is
-- `None` if no schedule of the UID in these rows runs on the day
abbrev pub chosen_in : List Row → List ℕ → ℕ → Option Train
chosen_in rows uid day = find (is_choice (schedules_in rows) uid day) (schedules_in rows)

-- the train that runs according to the chosen schedule, or `None` if there is no chosen schedule or
-- the chosen schedule is a cancellation
abbrev pub unless_cancelled : Option Train → Option Train
unless_cancelled None = None
unless_cancelled (Some train) = if train.key.indicator == 67 then None else Some train

-- the UID's train that starts on the day, according to the schedules in these rows, or `None` if
-- there is no such train
abbrev pub train_in : List Row → List ℕ → ℕ → Option Train
train_in rows uid day = unless_cancelled (chosen_in rows uid day)

-- whether the association belongs to the group
abbrev pub is_of_group : Group → AssociationKey → Bool
is_of_group group key =
    bytes_eq key.base group.base && bytes_eq key.associated group.associated && bytes_eq key.location group.location && (key.suffix == group.suffix)

-- whether the association belongs to the group and runs on the base train's start day
abbrev pub is_linked : Group → ℕ → Link → Bool
is_linked group day link = is_of_group group link.key && association_runs link.line day

-- whether this association is the choice for the group on the day. Of the group's associations in
-- the list that run on the day, this association comes first in the order of choice
abbrev pub is_link_choice : List Link → Group → ℕ → Link → Bool
is_link_choice links group day link =
    is_linked group day link
    && list_all (λ other. not (is_linked group day other && is_gt (association_choice_cmp link.key other.key))) links

-- of the group's associations in these rows, the association that is chosen for the base train's
-- start day. The result is `None` if no association of the group in these rows runs on that day
abbrev pub link_in : List Row → Group → ℕ → Option Link
link_in rows group day = find (is_link_choice (associations_in rows) group day) (associations_in rows)

-- the option has the UID's train that starts on the day, or it is `None` and no train of the UID
-- starts on that day
abbrev pub IsTrainOn : Table → List ℕ → ℕ → Option Train → Type 0
IsTrainOn live uid day None = RunsNot live uid day
IsTrainOn live uid day (Some train) = TrainRuns live uid day train.key train.lines

-- for each UID and each day, the function returns the train of the UID that starts on the day, or
-- `None` if there is no such train
abbrev pub TellsTrains : Table → (List ℕ → ℕ → Option Train) → Type 0
TellsTrains live trains = (uid : List ℕ) (day : ℕ) → IsTrainOn live uid day (trains uid day)

-- the option has the chosen association of the group on the day, or it is `None` and no association
-- of the group is chosen on that day
abbrev pub IsLinkOn : Table → Group → ℕ → Option Link → Type 0
IsLinkOn live group day None = (key : AssociationKey) (line : List ℕ) → ¬ IsChosenAssociation live group day key line
IsLinkOn live group day (Some link) = IsChosenAssociation live group day link.key link.line

-- for each group and each start day of the base train, the function returns the chosen association
-- of the group, or `None` if there is no such association
abbrev pub TellsLinks : Table → (Group → ℕ → Option Link) → Type 0
TellsLinks live links = (group : Group) (day : ℕ) → IsLinkOn live group day (links group day)
