-- Defines what the code reads from the field of a scheduled time, whether or not the field is good.
use Rattle.std.specs.Prelude.{◌≡◌, ℕ, List, true}
use Rattle.docker_model.specs.records.Clock.{is_blank, is_present_time, half_minutes}
use Rattle.cif_line.specs.declared.time_field.TimeField.{TimeField}

-- Says that a `TimeField` is the result of reading this field. If the field isn't a time, the
-- `TimeField` may contain any number of half minutes.
pub record ReadsTime (field : List ℕ) (read : TimeField) : Type 0 where
  pub blank : read.is_blank ≡ is_blank field
  pub time : read.is_time ≡ is_present_time field
  pub value : is_present_time field ≡ true → read.half_minutes ≡ half_minutes field
