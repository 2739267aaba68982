-- Timetables: which entries of a state count, and the table that they make.
use Rattle.std.specs.Prelude.{Bool, true, false}
use Rattle.docker_model.specs.file.Change as model
use Rattle.docker_model.specs.docker.Permanent.{is_permanent}
use Rattle.docker_model.specs.state.State.{State, live_table}
use Rattle.docker_model.specs.state.Table.{Table}
use Rattle.state_laws.specs.CountedRows.{counted_table}

-- a timetable: a state, and whether only its permanent entries count
pub record Timetable : Type 0 where
  pub state : State
  pub permanent : Bool

-- whether an entry with this key counts: always, or only if the key is permanent
abbrev pub counts : Bool → model.Key → Bool
counts false key = true
counts true key = is_permanent key

-- the table of a timetable: those live entries of its state that count
abbrev pub live_in : Timetable → Table
live_in timetable = counted_table (counts timetable.permanent) (live_table timetable.state)
