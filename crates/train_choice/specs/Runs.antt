-- Whether a schedule or an association runs on a day that isn't before its first date.
use Rattle.std.specs.Prelude.{ℕ, Bool, ◌&&◌, List, nat_le}
use Rattle.docker_model.specs.records.Date.{end_number, runs_on_weekday, weekday_of}

-- whether the day isn't after the last date, and its weekday is among the days run. `last` has the
-- six columns of a date, and `days` the seven flags of the days-run field
abbrev pub runs_until : List ℕ → List ℕ → ℕ → Bool
runs_until last days day = nat_le day (end_number last) && runs_on_weekday days (weekday_of day)
