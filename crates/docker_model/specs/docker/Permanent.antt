-- A table without the short-term plan: only timing points and permanent schedules and associations.
use Rattle.std.specs.Prelude.{Bool, true, ◌==◌, if◌then◌else◌, None}
use Rattle.docker_model.specs.file.Change.{Key, tiploc_key, association_key, schedule_key}
use Rattle.docker_model.specs.state.Table.{Table}

-- whether a docker without the short-term plan uses this key. The docker uses every timing point,
-- and the schedules and associations with the STP indicator P
abbrev pub is_permanent : Key → Bool
is_permanent (tiploc_key code) = true
is_permanent (association_key key) = key.indicator == 80
is_permanent (schedule_key key) = key.indicator == 80

-- the table without the short-term plan: new trains, overlays and cancellations are left out
abbrev pub permanent_table : Table → Table
permanent_table table key = if is_permanent key then table key else None
