-- The changes of a file, unit by unit. A file has units between its header and its trailer. A unit
-- is a single record, or all records of a schedule.
use Rattle.std.specs.Prelude.{ℕ, ◌+◌, if◌then◌else◌, List, [], ◌∷◌, ◌++◌, length}
use Rattle.docker_model.specs.records.Field.{is_deletion, as_new}
use Rattle.docker_model.specs.file.Change.{schedule_body, delete, put, Change, schedule_named, changes_of_record}

-- the changes of a unit. All of them belong to the first record of the unit, which has this number
abbrev pub changes_of_unit : ℕ → List (List ℕ) → List Change
changes_of_unit number [] = []
changes_of_unit number (line ∷ others) = changes_of_record number line others

-- the changes of units, in order. The first record of the first unit has this number
abbrev pub changes_of_units : ℕ → List (List (List ℕ)) → List Change
changes_of_units number [] = []
changes_of_units number (unit ∷ units) = changes_of_unit number unit ++ changes_of_units (number + length unit) units

-- the only change of a schedule, given its basic schedule and its other records: the change deletes
-- the key, or puts all records
abbrev pub change_of_schedule : ℕ → List ℕ → List (List ℕ) → Change
change_of_schedule number basic others = record {
  number = number;
  key = schedule_named basic;
  act = if is_deletion basic then delete else put (schedule_body (as_new basic ∷ others));
}
