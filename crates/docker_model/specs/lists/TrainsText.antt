-- The list of the trains that have a train identity and start on a day: which trains it has, and
-- its text. Each line of the text has 19 columns and a line feed. Days are numbered from
-- 1960-01-01, which is 0, to 2059-12-31, which is 36524.
use Rattle.std.specs.Prelude.{◌≡◌, ℕ, ◌↔◌, Bool, false, IsTrue, List, [], ◌∷◌, ◌++◌, Option, Some, Contains}
use Rattle.std.specs.List.{flat_map, list_any}
use Rattle.std.specs.Ordering.{on}
use Rattle.std.specs.Str.{bytes_eq}
use Rattle.docker_model.specs.records.PrintedTime.{spaces, day_text}
use Rattle.docker_model.specs.records.Record.{Kind, basic_schedule, change_en_route, columns, kind_of}
use Rattle.docker_model.specs.file.Change.{ScheduleKey}
use Rattle.docker_model.specs.state.Order.{bytes_cmp, IsStrictlyAscending}
use Rattle.docker_model.specs.state.Table.{Table}
use Rattle.docker_model.specs.docker.Choice.{Train, TrainRuns}
use Rattle.docker_model.specs.docker.DockerText.{ended}

-- whether a record of this kind gives its train this identity. A basic schedule has the identity in
-- columns 33 to 36, and a change en route in columns 13 to 16
abbrev pub gives_identity : List ℕ → Option Kind → List ℕ → Bool
gives_identity identity (Some basic_schedule) line = bytes_eq (columns 33 36 line) identity
gives_identity identity (Some change_en_route) line = bytes_eq (columns 13 16 line) identity
gives_identity identity _ line = false

-- whether at least one record of a schedule gives its train this identity
abbrev pub is_identified : List ℕ → List (List ℕ) → Bool
is_identified identity lines = list_any (λ line. gives_identity identity (kind_of line) line) lines

-- a train starts on the day and runs according to this schedule, and has the identity at its start
-- or from some location onwards
pub record IsListed (live : Table) (identity : List ℕ) (day : ℕ) (train : Train) : Type 0 where
  pub runs : TrainRuns live train.key.uid day train.key train.lines
  pub identified : IsTrue (is_identified identity train.lines)

-- these are the trains that have the identity and start on the day, in ascending order of their
-- UIDs. Each is given by the schedule according to which it runs
pub record AreListed (live : Table) (identity : List ℕ) (day : ℕ) (trains : List Train) : Type 0 where
  pub ascending : IsStrictlyAscending (on (λ (train : Train). train.key.uid) bytes_cmp) trains
  pub members : (train : Train) → Contains trains train ↔ IsListed live identity day train

-- the 19 columns of a train that starts on the day, given by its schedule's key: the UID, the start
-- day and the STP indicator
unfoldable pub train_columns : ℕ → ScheduleKey → List ℕ
train_columns day key = key.uid ++ spaces 1 ++ day_text day ++ spaces 1 ++ key.indicator ∷ []

-- the lines of these trains, which start on the day
abbrev pub trains_text : ℕ → List Train → List ℕ
trains_text day trains = flat_map (λ (train : Train). ended (train_columns day train.key)) trains

-- says that this text lists the trains that have the identity and start on the day
pub record IsTrainsText (live : Table) (identity : List ℕ) (day : ℕ) (text : List ℕ) : Type 0 where
  pub trains : List Train
  pub are : AreListed live identity day trains
  pub text_is : text ≡ trains_text day trains
