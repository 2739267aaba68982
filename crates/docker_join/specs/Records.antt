-- Bodies and ops whose lines are records of 80 printable bytes.
use Rattle.std.specs.Prelude.{⊤, All}
use Rattle.docker_model.specs.records.Record.{IsRecord}
use Rattle.docker_model.specs.file.Change.{Body, tiploc_body, association_body, schedule_body}
use Rattle.docker_model.specs.state.Op.{Op, deleted, lapsed, put_with}

-- Says that the lines of a body are records.
abbrev pub IsOfRecords : Body → Type 0
IsOfRecords (tiploc_body bytes) = ⊤
IsOfRecords (association_body line) = IsRecord line
IsOfRecords (schedule_body lines) = All IsRecord lines

-- Says that the lines of an op's body are records, if it has a body.
abbrev pub HasRecords : Op → Type 0
HasRecords deleted = ⊤
HasRecords lapsed = ⊤
HasRecords (put_with body) = IsOfRecords body
