-- The text of a docker line's origin, made from the records that were found for the line.
use Rattle.std.specs.Prelude.{ℕ, List, ◌++◌, Option}
use Rattle.docker_model.specs.records.PrintedNumber.{number_text}
use Rattle.docker_model.specs.records.PrintedTime.{spaces, day_text}
use Rattle.docker_model.specs.docker.DetailedText.{record_text}
use Rattle.docker_detail.specs.Records.{EventRecords}

-- columns 57 to 483 of a detailed line. The train starts on this day, and the event has this
-- number. Then come the records of the schedule that belong to the event, and the record of an
-- association
unfoldable pub found_text : ℕ → ℕ → EventRecords → Option (List ℕ) → List ℕ
found_text start number records association =
    spaces 1 ++ day_text start ++ spaces 1 ++ number_text number ++ spaces 1 ++ record_text records.basic ++ spaces 1
    ++ record_text records.extra ++ spaces 1 ++ record_text records.change ++ spaces 1 ++ record_text records.location
    ++ spaces 1 ++ record_text association
