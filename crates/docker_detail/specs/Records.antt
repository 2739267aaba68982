-- The records of a schedule that belong to the event with a given number.
use Rattle.std.specs.Prelude.{ℕ, ◌+◌, nat_le, if◌then◌else◌, List, [], ◌∷◌, Option, Some, None, codes, length}
use Rattle.docker_model.specs.file.Journey.{times_of}
use Rattle.docker_model.specs.docker.Event.{has_identity}
use Rattle.docker_model.specs.docker.DetailedText.{extra_record}

-- the change en route that is in force at an event, and the event's location record
pub record Place : Type 0 where
  pub change : Option (List ℕ)
  pub location : Option (List ℕ)

-- the change en route that is in force after a record. A change en route replaces the change before
-- it, and any other record leaves it
abbrev pub change_after : List ℕ → Option (List ℕ) → Option (List ℕ)
change_after line change = if has_identity (codes "CR") line then Some line else change

-- the place of the event with this number, among the last records of a schedule. `passed` is the
-- number of events before these records, and `change` the change en route in force before them. If
-- the schedule has fewer events, the place has no location
abbrev pub place_from : ℕ → Option (List ℕ) → List (List ℕ) → ℕ → Place
place_from passed change [] number = record { change = change; location = None }
place_from passed change (line ∷ lines) number =
    if nat_le number (passed + length (times_of line)) then record { change = change; location = Some line }
    else place_from (passed + length (times_of line)) (change_after line change) lines number

-- the place of the event with this number in a schedule
abbrev pub place_in : List (List ℕ) → ℕ → Place
place_in lines number = place_from 0 None lines number

-- the first of these records
abbrev pub first_of : List (List ℕ) → Option (List ℕ)
first_of [] = None
first_of (line ∷ lines) = Some line

-- the records of a schedule that belong to one of its events. These are the basic schedule, the
-- extra details, the change en route in force at the event, and the event's location record
pub record EventRecords : Type 0 where
  pub basic : Option (List ℕ)
  pub extra : Option (List ℕ)
  pub change : Option (List ℕ)
  pub location : Option (List ℕ)

-- the records that belong to the event with this number, in a schedule with these records
abbrev pub records_of : List (List ℕ) → ℕ → EventRecords
records_of lines number = record {
  basic = first_of lines;
  extra = extra_record lines;
  change = (place_in lines number).change;
  location = (place_in lines number).location;
}
