-- Converts the code's records and origins to the terms of the definitions, and says which place a
-- walk over a schedule's records finds.
use Rattle.std.specs.Prelude.{ℕ, ◌+◌, ◌*◌, ◌^◌, ◌≤◌, List, length, All}
use Rattle.std.specs.Option.{option_copied}
use Rattle.docker_model.specs.records.Field.{HasGoodFields}
use Rattle.docker_detail.specs.OriginText.{found_text}
use Rattle.docker_detail.specs.Records.{EventRecords, Place, first_of, place_from}
use Rattle.docker_detail.specs.declared.event_records.EventRecords as code
use Rattle.docker_detail.specs.declared.origin.LineOrigin.{LineOrigin}
use Rattle.docker_detail.specs.declared.record_walk.RecordWalk.{RecordWalk}

-- the place that a walk finds for the event with this number
abbrev pub place_ahead : RecordWalk → ℕ → Place
place_ahead walk number = place_from walk.passed (option_copied walk.change) walk.rest.now number

-- the place at which a walk stands: its next record, and the change en route in force there
abbrev pub place_here : RecordWalk → Place
place_here walk = record { change = option_copied walk.change; location = first_of walk.rest.now }

-- says that the walk can go on: the fields of the later records are good, and their events can be
-- counted
pub record CanWalk (walk : RecordWalk) : Type 0 where
  pub good : All HasGoodFields walk.rest.now
  pub room : walk.passed + 3 * length walk.rest.now ≤ 2 ^ 40

-- converts the code's `EventRecords` to the `EventRecords` of the definitions
abbrev pub records_meant : code.EventRecords → EventRecords
records_meant records = record {
  basic = option_copied records.basic;
  extra = option_copied records.extra;
  change = option_copied records.change;
  location = option_copied records.location;
}

-- the text of the code's `LineOrigin`
abbrev pub origin_meant : LineOrigin → List ℕ
origin_meant origin = found_text origin.start origin.number (record {
  basic = option_copied origin.basic;
  extra = option_copied origin.extra;
  change = option_copied origin.change;
  location = option_copied origin.location;
}) (option_copied origin.association)
