-- The live rows to which spots and postings refer. A spot is a TIPLOC with the index of a row
-- there.
use Rattle.std.specs.Prelude.{◌≡◌, ℕ, List, ◌++◌, Contains, Option, Some, slice_get, option_and_then}
use Rattle.std.specs.List.{filter_map}
use Rattle.docker_model.specs.file.Change.{Key}
use Rattle.docker_model.specs.state.Op.{Entry, body_of}
use Rattle.docker_model.specs.state.Row.{Row}
use Rattle.state_index.specs.SpotOrder.{Spot}
use Rattle.state_index.specs.declared.posting.Posting.{Posting}

-- the key and the body of a row, or `None` if its op isn't a put
abbrev pub live_row : Key × Entry → Option Row
live_row row = option_and_then (λ body. Some (row.0, body)) (body_of row.1.op)

-- the live row that a spot (a TIPLOC and a row's index) names, or `None` if the row isn't live
abbrev pub live_at : List (Key × Entry) → Spot → Option Row
live_at rows spot = option_and_then live_row (slice_get rows spot.at)

-- the live rows that the spots (each a TIPLOC and a row's index) name, in the order of the spots
abbrev pub rows_at_spots : List (Key × Entry) → List Spot → List Row
rows_at_spots rows spots = filter_map (live_at rows) spots

-- the live row that a posting names, or `None` if the row isn't live
abbrev pub live_at_posting : List (Key × Entry) → Posting → Option Row
live_at_posting rows posting = option_and_then live_row (slice_get rows posting.at)

-- the live rows that the postings name, in the order of the postings
abbrev pub rows_at_postings : List (Key × Entry) → List Posting → List Row
rows_at_postings rows postings = filter_map (live_at_posting rows) postings

-- Says that `piece` has all postings of the place with this index, and no other postings.
pub record IsPieceOf (rank : ℕ) (postings piece : List Posting) : Type 0 where
  pub before : List Posting
  pub behind : List Posting
  pub whole : postings ≡ (before ++ piece) ++ behind
  pub none_before : (posting : Posting) → Contains before posting → ¬ (posting.place ≡ rank)
  pub here : (posting : Posting) → Contains piece posting → posting.place ≡ rank
  pub none_behind : (posting : Posting) → Contains behind posting → ¬ (posting.place ≡ rank)

-- Says that `piece` has all spots (each a TIPLOC and a row's index) of this place, and no other spots.
pub record IsPieceAt (place : List ℕ) (spots piece : List Spot) : Type 0 where
  pub before : List Spot
  pub behind : List Spot
  pub whole : spots ≡ (before ++ piece) ++ behind
  pub none_before : (spot : Spot) → Contains before spot → ¬ (spot.place ≡ place)
  pub here : (spot : Spot) → Contains piece spot → spot.place ≡ place
  pub none_behind : (spot : Spot) → Contains behind spot → ¬ (spot.place ≡ place)
