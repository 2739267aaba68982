-- The places that a row names, given its key and its op.
use Rattle.std.specs.Prelude.{ℕ, List, [], ◌∷◌, map, filter}
use Rattle.docker_model.specs.records.Record.{kind_of, columns, is_location}
use Rattle.docker_model.specs.file.Change.{Key, association_key, schedule_key, association_body, schedule_body}
use Rattle.docker_model.specs.state.Op.{Op, put_with}

-- the location records (LO, LI, LT) in a list of lines
abbrev pub location_lines : List (List ℕ) → List (List ℕ)
location_lines lines = filter (λ line. is_location (kind_of line)) lines

-- for a row that puts a schedule, the TIPLOCs at which the schedule calls, in order. For any other
-- row the list is empty
abbrev pub call_places : Key → Op → List (List ℕ)
call_places (schedule_key key) (put_with (schedule_body lines)) = map (columns 3 9) (location_lines lines)
call_places _ _ = []

-- for a row that puts an association, the list with only the association's TIPLOC. For any other
-- row the list is empty
abbrev pub link_places : Key → Op → List (List ℕ)
link_places (association_key key) (put_with (association_body line)) = key.location ∷ []
link_places _ _ = []
