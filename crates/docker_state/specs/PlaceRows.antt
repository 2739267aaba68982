-- The live rows at a place: schedules that call there, or associations there.
use Rattle.std.specs.Prelude.{ℕ, Bool, true, false, if◌then◌else◌, List, Option, Some, None, option_and_then}
use Rattle.std.specs.List.{filter_map}
use Rattle.std.specs.Str.{bytes_eq}
use Rattle.docker_model.specs.file.Change.{Key, tiploc_key, association_key, schedule_key, Body, tiploc_body, association_body, schedule_body}
use Rattle.docker_model.specs.file.Journey.{calls_at}
use Rattle.docker_model.specs.state.Op.{Entry, body_of}
use Rattle.docker_model.specs.state.Row.{Row}

-- whether a key is a schedule's, and the schedule with this body calls at the place
abbrev pub is_call : List ℕ → Key → Body → Bool
is_call place (tiploc_key code) body = false
is_call place (association_key key) body = false
is_call place (schedule_key key) (tiploc_body bytes) = false
is_call place (schedule_key key) (association_body line) = false
is_call place (schedule_key key) (schedule_body lines) = calls_at place lines

-- whether a key is an association's, and the association is at the place
abbrev pub is_link : List ℕ → Key → Body → Bool
is_link place (tiploc_key code) body = false
is_link place (schedule_key key) body = false
is_link place (association_key key) (tiploc_body bytes) = false
is_link place (association_key key) (schedule_body lines) = false
is_link place (association_key key) (association_body line) = bytes_eq key.location place

-- whether a row with this key and body is at the place: an association there if the flag is true,
-- and otherwise a schedule that calls there
abbrev pub is_here : Bool → List ℕ → Key → Body → Bool
is_here true place key body = is_link place key body
is_here false place key body = is_call place key body

-- the key and the body of a row, if it is live and at the place
abbrev pub row_here : Bool → List ℕ → Key × Entry → Option Row
row_here links place row = option_and_then (λ body. if is_here links place row.0 body then Some (row.0, body) else None) (body_of row.1.op)

-- the live rows at the place, in the order of the given rows
abbrev pub rows_here : Bool → List ℕ → List (Key × Entry) → List Row
rows_here links place rows = filter_map (row_here links place) rows
