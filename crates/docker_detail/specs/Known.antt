-- What is remembered while origins are found: the train and the associations that were looked up
-- last.
use Rattle.std.specs.Prelude.{◌≡◌, ℕ, ◌≤◌, List, Option, Some, None, ⊤}
use Rattle.std.specs.Option.{option_copied}
use Rattle.docker_model.specs.state.Table.{Table}
use Rattle.docker_model.specs.state.Row.{Row, AreRowsOf}
use Rattle.docker_model.specs.docker.DetailedText.{extra_record}
use Rattle.docker_laws.specs.LiveRows.{train_in}
use Rattle.docker_state.specs.Timetables.{Timetable}
use Rattle.docker_detail.specs.Finding.{records_of_train}
use Rattle.docker_detail.specs.Meaning.{CanWalk, place_ahead}
use Rattle.docker_detail.specs.Records.{place_in}
use Rattle.docker_detail.specs.declared.known_train.KnownTrain.{KnownTrain}
use Rattle.docker_detail.specs.declared.link_records.KnownLinks.{KnownLinks}

-- says that a schedule's extra details are known, and that the walk over its records can still find
-- each event from the number `least` on
pub record IsReady (known : KnownTrain) : Type 0 where
  pub extra_is : option_copied known.extra ≡ extra_record known.lines.now
  pub can : CanWalk known.walk
  pub ahead : (number : ℕ) → known.least ≤ number → place_ahead known.walk number ≡ place_in known.lines.now number

-- says that the kept records belong to the UID's train that starts on the day
pub record IsKnownTrain (live : Table) (known : KnownTrain) : Type 0 where
  pub lines_are : (rows : List Row) → AreRowsOf live rows → known.lines.now ≡ records_of_train (train_in rows known.uid known.start)
  pub ready : IsReady known

-- like `IsKnownTrain`, for a train that may be kept
abbrev pub MayBeKnownTrain : Table → Option KnownTrain → Type 0
MayBeKnownTrain live None = ⊤
MayBeKnownTrain live (Some known) = IsKnownTrain live known

-- a timetable and a place
pub record AtPlace : Type 0 where
  pub timetable : Timetable
  pub place : List ℕ

-- says that the kept associations, if there are any, are the associations at the place
abbrev pub MayBeKnownLinks : Timetable → List ℕ → Option KnownLinks → Type 0
MayBeKnownLinks timetable place None = ⊤
MayBeKnownLinks timetable place (Some known) = known.links ≡ record { timetable = timetable; place = place; day = known.day }
