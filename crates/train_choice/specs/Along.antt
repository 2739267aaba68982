-- The choice of a schedule or an association, made row by row. The best schedule or association is
-- the one that comes first in the order of choice. This file also defines which rows are live, and
-- which rows have well-formed bodies.
use Rattle.std.specs.Prelude.{◌≡◌, ℕ, List, [], ◌∷◌, Option, Some, ⊤}
use Rattle.docker_model.specs.file.Change.{schedule_key, schedule_body, association_key, association_body}
use Rattle.docker_model.specs.state.Table.{Table}
use Rattle.docker_model.specs.state.State.{IsBodyOf}
use Rattle.docker_model.specs.docker.Choice.{Group, Train}
use Rattle.docker_model.specs.state.Row.{Row}
use Rattle.docker_laws.specs.LiveRows.{Link}
use Rattle.docker_laws.specs.ChoiceWalk.{next_chosen, next_link}

-- the best schedule of a UID on a day among `found` and all these rows
abbrev pub chosen_along : List ℕ → ℕ → Option Train → List Row → Option Train
chosen_along uid day found [] = found
chosen_along uid day found (row ∷ rows) = chosen_along uid day (next_chosen uid day found row.0 row.1) rows

-- the best association of a group on a start day of its base train, among `found` and all these
-- rows
abbrev pub link_along : Group → ℕ → Option Link → List Row → Option Link
link_along group day found [] = found
link_along group day found (row ∷ rows) = link_along group day (next_link group day found row.0 row.1) rows

-- says that the body of each row is well formed and fits its key
abbrev pub AreGoodRows : List Row → Type 0
AreGoodRows [] = ⊤
AreGoodRows (row ∷ rows) = IsBodyOf row.0 row.1 × AreGoodRows rows

-- says that each row is in the live table
abbrev pub AreLive : Table → List Row → Type 0
AreLive live [] = ⊤
AreLive live (row ∷ rows) = (live row.0 ≡ Some row.1) × AreLive live rows

-- says that the schedule is in the live table
abbrev pub IsLiveTrain : Table → Train → Type 0
IsLiveTrain live train = live (schedule_key train.key) ≡ Some (schedule_body train.lines)

-- says that the association is in the live table
abbrev pub IsLiveLink : Table → Link → Type 0
IsLiveLink live link = live (association_key link.key) ≡ Some (association_body link.line)
