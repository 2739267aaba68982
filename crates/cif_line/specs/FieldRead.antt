-- Fields of a line, each given by its first column and its width.
use Rattle.std.specs.Prelude.{ℕ, ◌+◌, ◌-◌, ◌*◌, List, take, Option, Some, None, option_map, if◌then◌else◌}
use Rattle.std.specs.Option.{option_map_or}
use Rattle.docker_model.specs.records.Record.{columns}
use Rattle.docker_model.specs.records.Clock.{public_time}
use Rattle.docker_model.specs.records.Field.{is_deletion}
use Rattle.docker_model.specs.records.PrintedTime.{spaces, time_text}

-- the `width` columns of a line that begin at column `first`: `field_at 4 6` gives columns 4 to 9
abbrev pub field_at : ℕ → ℕ → List ℕ → List ℕ
field_at first width line = columns first (first - 1 + width) line

-- the value of a field that isn't checked in a deletion, or `None` if the association or basic
-- schedule has the transaction `D`
abbrev pub unless_deleted : {A : Type 0} → List ℕ → A → Option A
unless_deleted line told = if is_deletion line then None else Some told

-- a public time HHMM in half minutes since midnight, or `None` if the field is `0000` or blank
abbrev pub public_half_minutes : List ℕ → Option ℕ
public_half_minutes field = option_map (λ minute. 2 * minute) (public_time field)

-- a public time as a docker prints it: HHMM, or four spaces if there is none
abbrev pub public_text : Option ℕ → List ℕ
public_text time = option_map_or (λ half_minutes. take 4 (time_text half_minutes)) time (spaces 4)
