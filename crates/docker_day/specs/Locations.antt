-- What a docker shows of a location record.
use Rattle.std.specs.Prelude.{ℕ, List, Option}
use Rattle.docker_model.specs.records.Record.{Kind}
use Rattle.docker_model.specs.file.Journey.{Occasion, arrival, pass, joining, dividing, next_working, departure}
use Rattle.docker_model.specs.docker.DockerLine.{platform_by_kind, track_by_kind, path_by_kind, public_by_kind}
use Rattle.docker_model.specs.records.PrintedTime.{spaces}
use Rattle.docker_day.specs.declared.location.Location.{Location}

-- what a docker shows of a location record: the platform, the line, the path, and the public times
-- of the arrival and the departure
pub record Shown : Type 0 where
  pub platform : List ℕ
  pub track : List ℕ
  pub path : List ℕ
  pub arrival : List ℕ
  pub departure : List ℕ

-- converts the code's `Location` to the `Shown` of the definitions
abbrev pub location_meant : Location → Shown
location_meant location = record {
  platform = location.platform.now;
  track = location.track.now;
  path = location.path.now;
  arrival = location.arrival.now;
  departure = location.departure.now;
}

-- what a docker shows of a record of this kind
abbrev pub location_by_kind : Option Kind → List ℕ → Shown
location_by_kind kind line = record {
  platform = platform_by_kind kind line;
  track = track_by_kind kind line;
  path = path_by_kind kind line;
  arrival = public_by_kind kind arrival line;
  departure = public_by_kind kind departure line;
}

-- the printed public time for an occasion. For any occasion other than an arrival or a departure,
-- the public time consists of spaces
abbrev pub public_at : Occasion → Shown → List ℕ
public_at arrival shown = shown.arrival
public_at departure shown = shown.departure
public_at pass shown = spaces 4
public_at joining shown = spaces 4
public_at dividing shown = spaces 4
public_at next_working shown = spaces 4
