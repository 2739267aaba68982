-- Lemmas on postings that are appended one after another, and on the spots made from them. A spot is a posting with the TIPLOC itself instead of the TIPLOC's
-- index.
use Rattle.cif_laws.proofs.Common.{◌≡◌, ℕ, ◌+◌, ◌<◌, ◌^◌, List, [], ◌∷◌, ◌++◌, length, sym, subst, Some, vec_len, vec_capacity, append-nil, arith}
use Rattle.cif_laws.proofs.Common.{rules, slice_get, Vec, length-append, append_assoc, filter_map-append, Contains-append_right, bytes_cmp, IsStrictlyAscending}
use Rattle.state_index.specs.declared.posting.Posting.{Posting}
use Rattle.state_index.specs.Posted.{ArePosted, CanPost}
use Rattle.state_index.specs.Rooms.{Item, HasRoomAt, places_in}
use Rattle.state_index.specs.SpotOrder.{Spot}
use Rattle.state_index.specs.Spots.{Places, spot_at, spots_in, spots_of}
use Rattle.state_index.proofs.Positions.{Keyed}

module _ (names : List (List ℕ)) where
  -- once the postings of the first places are appended, there is still room for the postings of the others
  pub can_back : (first second : List (List ℕ)) (spots : List Spot) (old new : Vec Posting) → length spots ≡ length first → ArePosted names spots old new
      → CanPost names (first ++ second) old → CanPost names second new
  can_back first second spots old new same posted can = record {
    named = can.named;
    few = can.few;
    all = λ place among. can.all place (Contains-append_right first second place among);
    room = (
        let len = length-append first second in
        let room = can.room in
        let grown = posted.len in
        let capacity = posted.capacity in
        omega arith
        );
  }

  -- if nothing is appended, the postings of no spots are appended
  pub posted_none : (postings : Vec Posting) → ArePosted names [] postings postings
  posted_none = search (rules, append-nil)

  -- appending the postings of some spots and then of others is appending the postings of all of them
  pub posted_then : (first second : List Spot) (old between new : Vec Posting) → ArePosted names first old between → ArePosted names second between new
      → ArePosted names (first ++ second) old new
  posted_then = search (rules, append_assoc, length-append)

  -- appending a posting whose place is the index of a name appends the posting of the spot with this name
  pub posted_one : (rank at : ℕ) (place : List ℕ) (old new : Vec Posting) → slice_get names rank ≡ Some place
      → new.items ≡ old.items ++ record { place = rank; at = at } ∷ [] → vec_len new ≡ vec_len old + 1 → vec_capacity new ≡ vec_capacity old
      → ArePosted names (spot_at at place ∷ []) old new
  posted_one = search (rules, filter_map-append)

-- memory that was reserved for the places of items, once it is empty, has room for their postings
pub can_all : (places : Places) (items : List Item) (names listed : List (List ℕ)) → listed ≡ names → IsStrictlyAscending bytes_cmp names
    → length names < 2 ^ 32 → (old new : Vec Posting) → HasRoomAt places items names old → vec_len new ≡ 0 → vec_capacity new ≡ vec_capacity old
    → CanPost listed (places_in places items) new
can_all places items names listed same named few old new room empty capacity =
    subst (λ all. CanPost all (places_in places items) new) (sym same) (record {
      named = named;
      few = few;
      all = room.all;
      room = (let fits = room.room in omega arith);
    })

-- postings of the rows' spots that were appended to no postings are postings of just these spots
pub made_all : (places : Places) (rows : List Keyed) (names listed : List (List ℕ)) → listed ≡ names → (old new : Vec Posting) → old.items ≡ []
    → ArePosted listed (spots_of places rows) old new → spots_in names new.items ≡ spots_of places rows
made_all = search rules
