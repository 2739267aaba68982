-- Converts spots to the rows of the two indexes that the definitions have for a live table: where
-- schedules call, and where associations are. A spot is a TIPLOC with the index of a row there.
use Rattle.std.specs.Prelude.{ℕ, List, Option, Some, None, slice_get, option_and_then}
use Rattle.std.specs.List.{filter_map}
use Rattle.docker_model.specs.file.Change.{Key, association_key, schedule_key}
use Rattle.docker_model.specs.state.Op.{Entry}
use Rattle.state_laws.specs.Index.{CallingRow, LinkedRow}
use Rattle.state_index.specs.SpotOrder.{Spot}

-- the row that the index of calls has for a place and a key, or `None` if the key isn't a
-- schedule's
abbrev pub calling_row : List ℕ → Key → Option CallingRow
calling_row place (schedule_key key) = Some (place, key)
calling_row _ _ = None

-- the row that the index of associations has for a place and a key, or `None` if the key isn't an
-- association's
abbrev pub linked_row : List ℕ → Key → Option LinkedRow
linked_row place (association_key key) = Some (place, key)
linked_row _ _ = None

-- the rows of the index of calls: for each spot in a list, the TIPLOC with the key of the row, if
-- this key is a schedule's. A spot is a TIPLOC with a row's index
abbrev pub calling_rows : List (Key × Entry) → List Spot → List CallingRow
calling_rows rows spots = filter_map (λ (spot : Spot). option_and_then (λ (row : Key × Entry). calling_row spot.place row.0) (slice_get rows spot.at)) spots

-- the rows of the index of associations: for each spot in a list, the TIPLOC with the key of the
-- row, if this key is an association's. A spot is a TIPLOC with a row's index
abbrev pub linked_rows : List (Key × Entry) → List Spot → List LinkedRow
linked_rows rows spots = filter_map (λ (spot : Spot). option_and_then (λ (row : Key × Entry). linked_row spot.place row.0) (slice_get rows spot.at)) spots
