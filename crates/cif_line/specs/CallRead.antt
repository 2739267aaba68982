-- Defines what the code reads from the times of an intermediate location.
use Rattle.std.specs.Prelude.{◌≡◌, ℕ, List, Option, None, Some, nat_lt, if◌then◌else◌}
use Rattle.docker_model.specs.records.Record.{columns}
use Rattle.docker_model.specs.records.Clock.{is_present_time, half_minutes, scheduled_time}
use Rattle.cif_line.specs.declared.intermediate_location.CallTimes.{CallTimes}

-- the time for which a number stands: the number of half minutes since midnight, or none if the
-- number is 2880 or more. For example, 120 stands for one o'clock, and 65535 for no time
abbrev pub number_meant : ℕ → Option ℕ
number_meant number = if nat_lt number 2880 then Some number else None

-- Says that these numbers stand for the scheduled times of the line. A blank field has no time.
pub record AreTimesOf (line : List ℕ) (times : CallTimes) : Type 0 where
  pub arrival : number_meant times.arrival ≡ scheduled_time (columns 11 15 line)
  pub departure : number_meant times.departure ≡ scheduled_time (columns 16 20 line)
  pub pass : number_meant times.pass ≡ scheduled_time (columns 21 25 line)

-- the half minutes since midnight in a field of a scheduled time, or 65535 if the field has no time
abbrev pub half_minutes_or_none : List ℕ → ℕ
half_minutes_or_none field = if is_present_time field then half_minutes field else 65535
