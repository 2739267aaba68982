-- Postings and their spots. A posting has its place as an index in a list of places, and its spot has the TIPLOC itself.
use Rattle.cif_laws.proofs.Common.{◌≡◌, ℕ, List, [], ◌∷◌, ◌++◌, refl, ap, sym, ◌∙◌, subst, Some, None, Contains, append-nil, rules, Option, ◌↔◌, slice_get}
use Rattle.cif_laws.proofs.Common.{option_map, option_and_then, cons_option, Ordering, Less, Equal, Greater, ordering_reverse, nat_cmp, tied_itself}
use Rattle.cif_laws.proofs.Common.{nat_list_cmp_total, filter_map-append, exact_unsigned, bytes_cmp, IsStrictlyAscending}
use Rattle.std.proofs.lemmas.Cmp.{ranked}
use Rattle.cif_laws.proofs.lists.Membership.{nil-Contains, cons-Contains, cons-Contains-first, Contains-map}
use Rattle.state_index.specs.SpotOrder.{Spot, spot_cmp}
use Rattle.state_index.specs.declared.posting.Posting.{Posting}
use Rattle.state_index.specs.PostingOrder.{posting_cmp}
use Rattle.state_index.specs.Spots.{Places, spot_at, spots_of, posting_spot, spots_in, ArePostingsOf}
use Rattle.state_index.specs.PlaceRows.{live_row, rows_at_spots, rows_at_postings, IsPieceAt, IsPieceOf}
use Rattle.state_index.specs.Rooms.{Item, Includes, items_of, places_in}
use Rattle.state_index.proofs.Positions.{Keyed, some_is, at_member, member_at, at_ascends, chosen_from, chosen_to, chosen_ascends, stand_spots}
use Rattle.state_index.proofs.RoomForRows.{named_by}

none_some : {A : Type 0} (a : A) → None ≡ Some a → ⊥
none_some a h = cc

-- the spot made from a posting has the name of the posting's place, and the posting's row
pub spot_named : (names : List (List ℕ)) (posting : Posting) (spot : Spot) → posting_spot names posting ≡ Some spot
    → (slice_get names posting.place ≡ Some spot.place) × (spot.at ≡ posting.at)
spot_named = search (rules, none_some, some_is)

module _ (names : List (List ℕ)) (up : IsStrictlyAscending bytes_cmp names) where
  -- two places in an ascending list compare like their indexes in the list
  pub place_order : (i j : ℕ) (x y : List ℕ) → slice_get names i ≡ Some x → slice_get names j ≡ Some y → bytes_cmp x y ≡ nat_cmp i j
  place_order i j x y is_x is_y = by (nat_cmp i j) refl
    where
      by : (o : Ordering) → nat_cmp i j ≡ o → bytes_cmp x y ≡ nat_cmp i j
      by Less at = at_ascends _ _ up _ _ _ _ (ranked i j Less (sym at)) is_x is_y ∙ sym at
      by Equal at =
          let one : i ≡ j = ranked i j Equal (sym at) in
          let same : x ≡ y = some_is _ _ (sym is_x ∙ ap (slice_get names) one ∙ is_y) in
          sym (ap (bytes_cmp x) same) ∙ tied_itself nat_list_cmp_total x ∙ sym at
      by Greater at = nat_list_cmp_total.antisymm x y ∙ ap ordering_reverse (at_ascends _ _ up _ _ _ _ (ranked i j Greater (sym at)) is_y is_x) ∙ sym at

  -- the TIPLOCs of two spots compare like the indexes that the two postings have for these TIPLOCs
  pub same_order : (a b : Posting) (x y : Spot) → posting_spot names a ≡ Some x → posting_spot names b ≡ Some y
      → bytes_cmp x.place y.place ≡ nat_cmp a.place b.place
  same_order a b x y is_x is_y = place_order a.place b.place x.place y.place (spot_named names a x is_x).0 (spot_named names b y is_y).0

  pub same_cmp : (a b : Posting) (x y : Spot) → posting_spot names a ≡ Some x → posting_spot names b ≡ Some y → spot_cmp x y ≡ posting_cmp a b
  same_cmp = search (rules, spot_named, same_order)

  -- if postings ascend, so do the spots made from them, which have the TIPLOC in place of its index
  pub spots_ascend : (postings : List Posting) → IsStrictlyAscending posting_cmp postings → IsStrictlyAscending spot_cmp (spots_in names postings)
  spots_ascend postings rise = chosen_ascends (posting_spot names) _ spot_cmp (λ a b c d below is_c is_d. same_cmp a b c d is_c is_d ∙ below) postings rise

  -- in an ascending list, a place has only one index
  one_rank : (i j : ℕ) (place : List ℕ) → slice_get names i ≡ Some place → slice_get names j ≡ Some place → i ≡ j
  one_rank i j place is_i is_j = exact_unsigned i j (sym (place_order i j place place is_i is_j) ∙ tied_itself nat_list_cmp_total place)

  -- if `piece` has all postings of a place, the spots made from `piece` (each a TIPLOC and a row's
  -- index) are exactly the spots of this place
  pub piece_at : (rank : ℕ) (place : List ℕ) (postings piece : List Posting) → slice_get names rank ≡ Some place → IsPieceOf rank postings piece
      → IsPieceAt place (spots_in names postings) (spots_in names piece)
  piece_at rank place postings piece at is = record {
    before = spots_in names is.before;
    behind = spots_in names is.behind;
    whole = ap (spots_in names) is.whole ∙ filter_map-append (posting_spot names) (is.before ++ piece) is.behind
        ∙ ap (λ (front : List Spot). front ++ spots_in names is.behind) (filter_map-append (posting_spot names) is.before piece);
    none_before = λ spot among same.
        let found = chosen_from _ is.before _ among in
        is.none_before found.0 found.1 (one_rank found.0.place _ place ((spot_named _ found.0 _ found.2).0 ∙ ap Some same) at);
    here = λ spot among.
        let found = chosen_from (posting_spot names) _ spot among in
        some_is _ place (sym (spot_named _ found.0 _ found.2).0 ∙ ap (slice_get names) (is.here found.0 found.1) ∙ at);
    none_behind = λ spot among same.
        let found = chosen_from (posting_spot names) _ spot among in
        is.none_behind found.0 found.1 (one_rank _ rank _ ((spot_named names _ spot found.2).0 ∙ ap Some same) at);
  }

-- if a place isn't in the list of names, no spot made from the postings (a TIPLOC and a row's index) is of this place
pub no_piece : (names : List (List ℕ)) (postings : List Posting) (place : List ℕ) → ¬ (Contains names place) → (all : List Spot) → all ≡ spots_in names postings
    → IsPieceAt place all []
no_piece names postings place never all all_is = record {
  before = all;
  behind = [];
  whole = sym (append-nil (all ++ []) ∙ append-nil all);
  none_before = λ spot among same.
      let found = chosen_from (posting_spot names) postings spot (subst (λ zs. Contains zs spot) all_is among) in
      never (subst (Contains names) same (at_member names found.0.place spot.place (spot_named names found.0 spot found.2).0));
  here = λ spot among. absurd (nil-Contains spot among);
  none_behind = λ spot among. absurd (nil-Contains spot among);
}

-- the postings of a place name the same rows as the spots made from them, which have the TIPLOC in place of its index
pub same_rows : (names : List (List ℕ)) (rank : ℕ) (place : List ℕ) → slice_get names rank ≡ Some place → (piece : List Posting)
    → ((posting : Posting) → Contains piece posting → posting.place ≡ rank) → (rows : List Keyed)
    → rows_at_postings rows piece ≡ rows_at_spots rows (spots_in names piece)
same_rows names rank place at [] here rows = refl
same_rows names rank place at (posting ∷ piece) here rows =
    by (posting_spot names posting) (ap (option_map (spot_at posting.at)) (ap (slice_get names) (here posting (cons-Contains-first posting piece)) ∙ at))
    (same_rows names rank place at piece (λ m among. here m (cons-Contains posting piece m among)) rows)
  where
    by : (o : Option Spot) → o ≡ Some (spot_at posting.at place) → rows_at_postings rows piece ≡ rows_at_spots rows (spots_in names piece)
        → rows_at_postings rows (posting ∷ piece) ≡ rows_at_spots rows (cons_option o (spots_in names piece))
    by None told rest = absurd (none_some (spot_at posting.at place) told)
    by (Some spot) told rest =
        let same : spot ≡ spot_at posting.at place = some_is spot (spot_at posting.at place) told in
        λ i. cons_option (option_and_then live_row (slice_get rows (sym (ap (λ (s : Spot). s.at) same) i))) (rest i)

-- if all postings of one list are in a second list, each spot made from the first list is also made
-- from the second list. A spot is a TIPLOC with a row's index
pub same_spots : (names : List (List ℕ)) (postings others : List Posting) → ((posting : Posting) → Contains postings posting → Contains others posting)
    → (spot : Spot)
    → Contains (spots_in names postings) spot → Contains (spots_in names others) spot
same_spots names postings others same spot among =
    let found = chosen_from (posting_spot names) postings spot among in
    chosen_to (posting_spot names) others found.0 spot (same found.0 found.1) found.2

-- if postings name exactly the places of the rows, sorting them and removing repeated postings makes them the rows' postings
pub postings_made : (places : Places) (rows : List Keyed) (names : List (List ℕ)) (made postings : List Posting) → IsStrictlyAscending bytes_cmp names
    → spots_in names made ≡ spots_of places rows → IsStrictlyAscending posting_cmp postings
    → ((posting : Posting) → Contains postings posting ↔ Contains made posting)
    → ArePostingsOf places rows names postings
postings_made places rows names made postings named are up same = record {
  up = up;
  are = record {
    ascending = spots_ascend _ named postings up;
    members = λ spot. (
      λ among. subst (λ zs. Contains zs spot) are (same_spots _ _ _ (λ m. (same m).0) _ among),
      λ among. same_spots _ _ _ (λ m. (same m).1) _ (subst (λ zs. Contains zs spot) (sym are) among),
    );
  };
}

-- if postings name exactly the places of the rows, the list of names has each place of the rows
pub names_listed : (places : Places) (rows : List Keyed) (names : List (List ℕ)) (postings : List Posting) → ArePostingsOf places rows names postings
    → Includes (places_in places (items_of rows)) names
names_listed places rows names postings is place among =
    let item = named_by places _ place among in
    let row = Contains-map {B = Item} (λ (r : Keyed). (r.0, r.1.op)) rows item.0 item.1 in
    let at = member_at _ row.0 row.1 in
    let here : Contains (places row.0.0 row.0.1.op) place = subst (λ (i : Item). Contains (places i.0 i.1) place) (sym row.2) item.2 in
    let found = chosen_from _ postings _ ((is.are.members (spot_at at.0 place)).1 (stand_spots places _ (spot_at at.0 place) (row.0, at.1, here))) in
    at_member _ found.0.place _ (spot_named names _ (spot_at at.0 place) found.2).0
