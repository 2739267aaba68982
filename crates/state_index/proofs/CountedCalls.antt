-- A place has as many postings of calls as there are live schedules that call there. The proof is about spots. A spot is a posting with the TIPLOC itself
-- instead of the TIPLOC's index.
use Rattle.cif_laws.proofs.Common.{◌≡◌, ℕ, suc, List, [], ◌∷◌, length, refl, ap, sym, ◌∙◌, subst, Some, None, Contains, Option, slice_get, option_map}
use Rattle.cif_laws.proofs.Common.{cons_option, State, AreAscending, live_table, Row}
use Rattle.cif_laws.proofs.lists.Membership.{cons-Contains, cons-Contains-first}
use Rattle.state_index.specs.NamedPlaces.{call_places}
use Rattle.state_index.specs.Counts.{IsCallingCount}
use Rattle.state_index.specs.SpotOrder.{Spot}
use Rattle.state_index.specs.Spots.{spot_at, posting_spot, spots_in, AreSpotsOf}
use Rattle.state_index.specs.PlaceRows.{live_at, rows_at_spots, IsPieceAt}
use Rattle.state_index.specs.declared.posting.Posting.{Posting}
use Rattle.state_index.proofs.Pieces.{in_whole}
use Rattle.state_index.proofs.LiveIndexes.{call_puts, calling_there, seen}
use Rattle.state_index.proofs.Positions.{Keyed}

none_some : {A : Type 0} (a : A) → None ≡ Some a → ⊥
none_some a h = cc

-- if all postings in a list are of one place, `spots_in` turns each of them into a spot (a TIPLOC with the index of a row)
pub as_many_spots : (names : List (List ℕ)) (rank : ℕ) (place : List ℕ) → slice_get names rank ≡ Some place → (piece : List Posting)
    → ((posting : Posting) → Contains piece posting → posting.place ≡ rank) → length (spots_in names piece) ≡ length piece
as_many_spots names rank place at [] here = refl
as_many_spots names rank place at (posting ∷ piece) here =
    by (posting_spot names posting) (ap (option_map (spot_at posting.at)) (ap (slice_get names) (here posting (cons-Contains-first posting piece)) ∙ at))
    (as_many_spots names rank place at piece (λ m among. here m (cons-Contains posting piece m among)))
  where
    by : (o : Option Spot) → o ≡ Some (spot_at posting.at place) → length (spots_in names piece) ≡ length piece
        → length (cons_option o (spots_in names piece)) ≡ length (posting ∷ piece)
    by None told rest = absurd (none_some (spot_at posting.at place) told)
    by (Some spot) told rest = ap suc rest

-- Says that the row of a spot (a TIPLOC with the index of a row) is live.
abbrev IsSeen : List Keyed → Spot → Type 0
IsSeen rows spot = (row : Row) × (live_at rows spot ≡ Some row)

-- if the row of each spot (a TIPLOC with the index of a row) is live, as many live rows are found as there are spots
as_many_rows : (rows : List Keyed) (piece : List Spot) → ((spot : Spot) → Contains piece spot → IsSeen rows spot)
    → length (rows_at_spots rows piece) ≡ length piece
as_many_rows rows [] seen = refl
as_many_rows rows (spot ∷ piece) seen =
    by (live_at rows spot) (seen spot (cons-Contains-first spot piece)) (as_many_rows rows piece (λ s among. seen s (cons-Contains spot piece s among)))
  where
    by : (o : Option Row) → ((row : Row) × (o ≡ Some row)) → length (rows_at_spots rows piece) ≡ length piece
        → length (cons_option o (rows_at_spots rows piece)) ≡ length (spot ∷ piece)
    by None told rest = absurd (none_some told.0 told.1)
    by (Some row) told rest = ap suc rest

-- as many live schedules call at a place as there are spots (pairs of a TIPLOC and a row) of calls there
counted_there : (state : State) → AreAscending state.entries → (spots : List Spot) → AreSpotsOf call_places state.entries spots
    → (place : List ℕ) (piece : List Spot) → IsPieceAt place spots piece → IsCallingCount (live_table state) place (length piece)
counted_there state up spots of place piece is =
    (rows_at_spots state.entries piece, calling_there state up _ of place _ is, as_many_rows state.entries _ seen_there)
  where
    seen_there : (spot : Spot) → Contains piece spot → IsSeen state.entries spot
    seen_there spot among =
        let row = seen call_places call_puts state up spots of spot (in_whole spots is.before piece is.behind spot is.whole among) in
        ((row.0.0, row.1), row.3)

-- if `spots_in` makes a spot of each posting, as many live schedules call at a place as there are postings of calls there
pub calling_counted : (state : State) → AreAscending state.entries → (spots slice : List Spot) → slice ≡ spots
    → AreSpotsOf call_places state.entries spots → (place field : List ℕ) → field ≡ place → (names : List (List ℕ)) (piece : List Posting)
    → IsPieceAt field slice (spots_in names piece) → length (spots_in names piece) ≡ length piece → (count : ℕ) → count ≡ length piece
    → IsCallingCount (live_table state) place count
calling_counted state up spots slice slice_is of place field field_is names piece is many count count_is =
    let found = counted_there state up spots of place (spots_in names piece)
    (subst (λ p. IsPieceAt p spots (spots_in names piece)) field_is (subst (λ zs. IsPieceAt field zs (spots_in names piece)) slice_is is)) in
    (found.0, found.1, found.2 ∙ many ∙ sym count_is)
