-- Defines what an index of rows contains: the spots of all calls of live schedules, and the spots
-- of all live associations. A spot is a TIPLOC with the index of a row there.
use Rattle.std.specs.Prelude.{ℕ, ◌+◌, ◌↔◌, List, [], ◌∷◌, ◌++◌, map, Contains, Option, option_map, slice_get}
use Rattle.std.specs.List.{filter_map}
use Rattle.docker_model.specs.file.Change.{Key}
use Rattle.docker_model.specs.state.Op.{Op, Entry}
use Rattle.docker_model.specs.state.Order.{bytes_cmp, IsStrictlyAscending}
use Rattle.state_index.specs.NamedPlaces.{call_places, link_places}
use Rattle.state_index.specs.SpotOrder.{Spot, spot_cmp}
use Rattle.state_index.specs.declared.posting.Posting.{Posting}
use Rattle.state_index.specs.PostingOrder.{posting_cmp}
use Rattle.state_index.specs.declared.index.Index.{Index}

-- a function that gives, for the key and the op of a row, the places where the row's schedule
-- calls, or the place of its association
abbrev pub Places : Type 0
Places = Key → Op → List (List ℕ)

-- the places of a row
abbrev pub places_of : Places → Key × Entry → List (List ℕ)
places_of places row = places row.0 row.1.op

-- the spot of a place, for the row at index `at`
abbrev pub spot_at : ℕ → List ℕ → Spot
spot_at at place = record { place = place; at = at }

-- the spots (each a TIPLOC and a row's index) of a list of rows whose first row has index `at`
abbrev pub spots_from : Places → ℕ → List (Key × Entry) → List Spot
spots_from places at [] = []
spots_from places at (row ∷ rows) = map (spot_at at) (places_of places row) ++ spots_from places (1 + at) rows

-- the spots (each a TIPLOC and a row's index) of a list of rows whose first row has index 0
abbrev pub spots_of : Places → List (Key × Entry) → List Spot
spots_of places rows = spots_from places 0 rows

-- Says that these are exactly the spots (each a TIPLOC and a row's index) of the rows, in strictly ascending order.
pub record AreSpotsOf (places : Places) (rows : List (Key × Entry)) (spots : List Spot) : Type 0 where
  pub ascending : IsStrictlyAscending spot_cmp spots
  pub members : (spot : Spot) → Contains spots spot ↔ Contains (spots_of places rows) spot

-- the spot of a posting: the name of its place, with its row. The posting has its place as an index in a list of names. If the list has no element at this
-- index, the result is `None`
abbrev pub posting_spot : List (List ℕ) → Posting → Option Spot
posting_spot names posting = option_map (spot_at posting.at) (slice_get names posting.place)

-- for each posting in a list, the name of its place, with its row. The postings have their places as indexes in a list of names
abbrev pub spots_in : List (List ℕ) → List Posting → List Spot
spots_in names postings = filter_map (posting_spot names) postings

-- Says that the postings ascend, and that they name exactly the places of the rows.
pub record ArePostingsOf (places : Places) (rows : List (Key × Entry)) (names : List (List ℕ)) (postings : List Posting) : Type 0 where
  pub up : IsStrictlyAscending posting_cmp postings
  pub are : AreSpotsOf places rows (spots_in names postings)

-- Says that this is the index of the rows. Its postings of calls name exactly the places where live
-- schedules call. Its postings of associations name exactly the places of live associations.
pub record IsIndexOf (rows : List (Key × Entry)) (index : Index) : Type 0 where
  pub named : IsStrictlyAscending bytes_cmp index.places.items
  pub calls : ArePostingsOf call_places rows index.places.items index.calls.items
  pub links : ArePostingsOf link_places rows index.places.items index.links.items

-- the places where live schedules call according to an index, each with the row of the schedule
abbrev pub call_spots : Index → List Spot
call_spots index = spots_in index.places.items index.calls.items

-- the places of live associations according to an index, each with the row of the association
abbrev pub link_spots : Index → List Spot
link_spots index = spots_in index.places.items index.links.items
