-- Postings that are written into memory that was reserved beforehand.
use Rattle.std.specs.Prelude.{◌≡◌, ℕ, ◌+◌, ◌<◌, ◌≤◌, ◌^◌, Bool, true, false, List, ◌++◌, length}
use Rattle.std.specs.Global.{Vec}
use Rattle.std.specs.Vec.{vec_len, vec_capacity}
use Rattle.docker_model.specs.state.Order.{bytes_cmp, IsStrictlyAscending}
use Rattle.state_index.specs.NamedPlaces.{call_places, link_places}
use Rattle.state_index.specs.declared.posting.Posting.{Posting}
use Rattle.state_index.specs.Rooms.{Includes}
use Rattle.state_index.specs.SpotOrder.{Spot}
use Rattle.state_index.specs.Spots.{Places, spots_in}

-- the places of a row that are asked for: of its association if the flag is true, and otherwise of
-- its calls
abbrev pub asked_places : Bool → Places
asked_places true = link_places
asked_places false = call_places

-- Says that a list of names is in order and has all of these places, and that there is room for a
-- posting of each place.
pub record CanPost (names places : List (List ℕ)) (postings : Vec Posting) : Type 0 where
  pub named : IsStrictlyAscending bytes_cmp names
  pub few : length names < 2 ^ 32
  pub all : Includes places names
  pub room : vec_len postings + length places ≤ vec_capacity postings

-- Says that the postings of these spots were appended. A spot is a TIPLOC with the index of a row
-- there.
pub record ArePosted (names : List (List ℕ)) (spots : List Spot) (old new : Vec Posting) : Type 0 where
  pub are : spots_in names new.items ≡ spots_in names old.items ++ spots
  pub len : vec_len new ≡ vec_len old + length spots
  pub capacity : vec_capacity new ≡ vec_capacity old
