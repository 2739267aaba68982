-- The spots of a state's rows determine the indexes of its live table. A spot is a TIPLOC with the
-- index of a row there. The rows that a place's spots name are exactly the schedules that call
-- there and the associations there.
use Rattle.cif_laws.proofs.Common.{◌↔◌, tied_itself, nat_list_cmp_total, IsBelow, Table, AreInKeyOrder, ◌≡◌, ℕ, List, refl, ap, sym, ◌∙◌, subst, Some, None}
use Rattle.cif_laws.proofs.Common.{Contains, rules, Option, slice_get, option_and_then, filter_map, Ordering, Less, Equal, Greater, ordering_then, nat_cmp, Key}
use Rattle.cif_laws.proofs.Common.{association_key, schedule_key, AssociationKey, ScheduleKey, Body, association_body, schedule_body, Op, put_with, Entry}
use Rattle.cif_laws.proofs.Common.{body_of, key_cmp, schedule_key_cmp, association_key_cmp, bytes_cmp, IsStrictlyAscending, State, AreAscending, entry_at}
use Rattle.cif_laws.proofs.Common.{live_table, Row}
use Rattle.cif_laws.proofs.lists.Later.{later_weaker}
use Rattle.cif_laws.proofs.orders.Ascending.{later_of, ascending_of}
use Rattle.state_index.specs.Spots.{Places}
use Rattle.state_index.specs.PlaceRows.{live_at}
use Rattle.std.proofs.lemmas.Cmp.{ranked}
use Rattle.state_laws.specs.Index.{CallingRow, LinkedRow, IsCalling, IsLinked, IsCallingIndex, IsLinkedIndex, AreCalling, AreLinked}
use Rattle.state_laws.proofs.joins.StagedEntry.{entry_at_iff}
use Rattle.state_index.specs.NamedPlaces.{call_places, link_places}
use Rattle.state_index.specs.SpotOrder.{Spot, spot_cmp}
use Rattle.state_index.specs.Spots.{spot_at, AreSpotsOf}
use Rattle.state_index.specs.Tables.{calling_row, linked_row, calling_rows, linked_rows}
use Rattle.state_index.specs.PlaceRows.{live_row, rows_at_spots, IsPieceAt}
use Rattle.state_index.proofs.Positions.{Keyed, some_is, at_member, member_at, at_ascends, chosen_from, chosen_to, chosen_ascends, spots_stand, stand_spots}
use Rattle.state_index.proofs.Pieces.{in_whole, in_piece, piece_ascends}
use Rattle.state_index.proofs.RowPlaces.{call_back, call_forth, link_back, link_forth}

none_some : {A : Type 0} (a : A) → None ≡ Some a → ⊥
none_some a h = cc

-- if a chain has a result, its first value exists, and its second function gives the result for this value
found_in : {A B : Type 0} (f : A → Option B) (o : Option A) (b : B) → option_and_then f o ≡ Some b → (a : A) × (o ≡ Some a) × (f a ≡ Some b)
found_in f None b is = absurd (none_some b is)
found_in f (Some a) b is = (a, refl, is)

put_of : (op : Op) (body : Body) → body_of op ≡ Some body → op ≡ put_with body
put_of = search (rules, none_some, some_is)

-- if a row's op is a put, its key is live in the state, with the body that is put
put_is_live : (state : State) → AreAscending state.entries → (at : ℕ) (row : Keyed) (body : Body) → slice_get state.entries at ≡ Some row
    → row.1.op ≡ put_with body → live_table state row.0 ≡ Some body
put_is_live state up at row body is put =
    ap (option_and_then (λ (entry : Entry). body_of entry.op)) ((entry_at_iff state up row.0 row.1).1 (at_member state.entries at row is)) ∙ ap body_of put

-- a key that is live in the state is the key of a row whose op is a put
live_is_put : (state : State) → AreAscending state.entries → (key : Key) (body : Body) → live_table state key ≡ Some body
    → (at : ℕ) × (entry : Entry) × (slice_get state.entries at ≡ Some (key, entry)) × (entry.op ≡ put_with body)
live_is_put state up key body live =
    let entry = found_in (λ (e : Entry). body_of e.op) (entry_at state key) body live in
    let place = member_at state.entries (key, entry.0) ((entry_at_iff state up key entry.0).0 entry.1) in
    (place.0, entry.0, place.1, put_of entry.0.op body entry.2)

-- the lemmas that hold for both indexes, the index of calls and the index of associations
module _ {K : Type 0} (wrap : K → Key) (row_of : List ℕ → Key → Option (List ℕ × K))
    (unwrap : (place : List ℕ) (key : Key) (row : List ℕ × K) → row_of place key ≡ Some row → (row.0 ≡ place) × (key ≡ wrap row.1)) where
  abbrev IndexRow : Type 0
  IndexRow = List ℕ × K

  -- the row that the live table's index has for a spot (a TIPLOC and a row's index). The result is
  -- `None` if the row's key isn't of the kind that the index lists
  abbrev row_at : List Keyed → Spot → Option IndexRow
  row_at rows spot = option_and_then (λ (row : Keyed). row_of spot.place row.0) (slice_get rows spot.at)

  -- the index row found for a spot has the TIPLOC of the spot, and the key of the row that the spot names
  told_at : (rows : List Keyed) (spot : Spot) (index_row : IndexRow) → row_at rows spot ≡ Some index_row
      → (row : Keyed) × (slice_get rows spot.at ≡ Some row) × (index_row.0 ≡ spot.place) × (row.0 ≡ wrap index_row.1)
  told_at rows spot index_row is =
      let row = found_in (λ (r : Keyed). row_of spot.place r.0) (slice_get rows spot.at) index_row is in
      let told = unwrap spot.place row.0.0 index_row row.2 in
      (row.0, row.1, told.0, told.1)

  abbrev index_cmp : (K → K → Ordering) → IndexRow → IndexRow → Ordering
  index_cmp cmp a b = ordering_then (bytes_cmp a.0 b.0) (cmp a.1 b.1)

  -- if spots (each a TIPLOC and a row's index) ascend, so do the index rows found for them
  index_ascends : (cmp : K → K → Ordering) → ((a b : K) → key_cmp (wrap a) (wrap b) ≡ Less → cmp a b ≡ Less)
      → (rows : List Keyed) → AreAscending rows → (spots : List Spot) → IsStrictlyAscending spot_cmp spots
      → IsStrictlyAscending (index_cmp cmp) (filter_map (row_at rows) spots)
  index_ascends cmp below rows up spots ascending = chosen_ascends (row_at rows) _ (index_cmp cmp) keeps spots ascending
    where
      keeps : (a b : Spot) (c d : IndexRow) → spot_cmp a b ≡ Less → row_at rows a ≡ Some c → row_at rows b ≡ Some d → index_cmp cmp c d ≡ Less
      keeps a b c d before is_c is_d = by (bytes_cmp a.place b.place) refl before
        where
          from_a : (row : Keyed) × (slice_get rows a.at ≡ Some row) × (c.0 ≡ a.place) × (row.0 ≡ wrap c.1)
          from_a = told_at _ a _ is_c

          from_b : (row : Keyed) × (slice_get rows b.at ≡ Some row) × (d.0 ≡ b.place) × (row.0 ≡ wrap d.1)
          from_b = told_at rows _ d is_d

          places : bytes_cmp c.0 d.0 ≡ bytes_cmp a.place b.place
          places = λ i. bytes_cmp (from_a.2 i) (from_b.2 i)

          by : (o : Ordering) → bytes_cmp a.place b.place ≡ o → ordering_then o (nat_cmp a.at b.at) ≡ Less → index_cmp cmp c d ≡ Less
          by Less at told = λ i. ordering_then ((places ∙ at) i) (cmp c.1 d.1)
          by Greater at told = absurd (let bad : Greater ≡ Less = told in cc)
          by Equal at told =
              let keys : key_cmp from_a.0.0 from_b.0.0 ≡ Less = at_ascends _ rows up _ b.at _ from_b.0 (ranked a.at b.at Less (sym told)) from_a.1 from_b.1 in
              (λ i. ordering_then ((places ∙ at) i) (cmp c.1 d.1))
              ∙ below c.1 d.1 (sym (λ i. key_cmp (from_a.3 i) (from_b.3 i)) ∙ keys)

-- if `live_at` finds a live row for a spot (a TIPLOC and a row's index), the row at this index has the live row's key
live_from : (rows : List Keyed) (spot : Spot) (live : Row) → live_at rows spot ≡ Some live
    → (row : Keyed) × (slice_get rows spot.at ≡ Some row) × (row.0 ≡ live.0)
live_from = search (rules, none_some, some_is)

-- the lemmas that hold for the spots of calls and for the spots of associations
module _ (places : Places) (puts : (key : Key) (op : Op) (place : List ℕ) → Contains (places key op) place → (body : Body) × (op ≡ put_with body))
    (state : State) (up : AreAscending state.entries) (spots : List Spot) (of : AreSpotsOf places state.entries spots) where
  -- Says that a key is live with this body, and that both name this place.
  abbrev Named : List ℕ → Key → Body → Type 0
  Named place key body = (live_table state key ≡ Some body) × Contains (places key (put_with body)) place

  -- each spot (a TIPLOC and a row's index) names a live row, and this row names the TIPLOC
  pub seen : (spot : Spot) → Contains spots spot
      → (row : Keyed) × (body : Body) × (slice_get state.entries spot.at ≡ Some row) × (live_at state.entries spot ≡ Some (row.0, body))
      × Named spot.place row.0 body
  seen spot among =
      let stands = spots_stand places state.entries spot ((of.members spot).0 among) in
      let put = puts stands.0.0 stands.0.1.op spot.place stands.2 in (
        stands.0,
        put.0,
        stands.1,
        ap (option_and_then live_row) stands.1 ∙ ap (λ op. option_and_then {U = Row} (λ (b : Body). Some (stands.0.0, b)) (body_of op)) put.1,
        (put_is_live state up spot.at stands.0 put.0 stands.1 put.1, subst (λ op. Contains (places stands.0.0 op) spot.place) put.1 stands.2),
      )

  -- each live row that names a place has a spot with this place
  spotted : (place : List ℕ) (key : Key) (body : Body) → Named place key body
      → (at : ℕ) × (entry : Entry) × Contains spots (spot_at at place) × (slice_get state.entries at ≡ Some (key, entry)) × (entry.op ≡ put_with body)
  spotted place key body named =
      let live = live_is_put state up key body named.0 in (
        live.0,
        live.1,
        (of.members (spot_at live.0 place)).1 (stand_spots places state.entries (spot_at live.0 place)
            ((key, live.1), live.2, subst (λ op. Contains (places key op) place) (sym live.3) named.1)),
        live.2,
        live.3,
      )

  -- an index has a row for a place and a key if and only if the key is live and names the place
  listed : {K : Type 0} (wrap : K → Key) (row_of : List ℕ → Key → Option (List ℕ × K))
      (unwrap : (place : List ℕ) (key : Key) (row : List ℕ × K) → row_of place key ≡ Some row → (row.0 ≡ place) × (key ≡ wrap row.1))
      → ((place : List ℕ) (k : K) → row_of place (wrap k) ≡ Some (place, k)) → (place : List ℕ) (k : K)
      → Contains (filter_map (row_at wrap row_of unwrap state.entries) spots) (place, k) ↔ ((body : Body) × Named place (wrap k) body)
  listed {K} wrap row_of unwrap wrapped place k = (
    λ among.
        let found = chosen_from (row_at wrap row_of unwrap state.entries) spots (place, k) among in
        let told = told_at wrap row_of unwrap state.entries found.0 (place, k) found.2 in
        let row = seen found.0 found.1 in
        let same : row.0 ≡ told.0 = some_is row.0 told.0 (sym row.2 ∙ told.1) in
        (row.1, subst (λ p. Named p (wrap k) row.1) (sym told.2) (subst (λ key. Named found.0.place key row.1) (ap (λ (r : Keyed). r.0) same ∙ told.3) row.4)),
    λ (body, named).
        let live = spotted place (wrap k) body named in
        chosen_to (row_at wrap row_of unwrap state.entries) spots (spot_at live.0 place) (place, k) live.2
        (ap (option_and_then (λ (row : Keyed). row_of place row.0)) live.3 ∙ wrapped place k),
  )

  -- the rows that a place's spots (each a TIPLOC and a row's index) name are exactly the live rows that name the place, in key order
  rows_there : (place : List ℕ) (piece : List Spot) → IsPieceAt place spots piece → AreInKeyOrder (rows_at_spots state.entries piece)
      × ((key : Key) (body : Body) → Contains (rows_at_spots state.entries piece) (key, body) ↔ Named place key body)
  rows_there place piece is = (
    chosen_ascends (live_at state.entries) (λ a b. nat_cmp a.at b.at) _ keeps piece (ascending_of _ piece (later_weaker
        (IsBelow spot_cmp) _ piece rises (later_of spot_cmp piece (piece_ascends spot_cmp is.before piece is.behind
        (subst (IsStrictlyAscending spot_cmp) is.whole of.ascending))))),
    λ key body. (
      λ among.
          let found = chosen_from (live_at state.entries) piece (key, body) among in
          let row = seen found.0 (in_whole spots is.before piece is.behind found.0 is.whole found.1) in
          subst (λ (pair : Row). Named place pair.0 pair.1) (some_is (row.0.0, row.1) (key, body) (sym row.3 ∙ found.2))
          (subst (λ p. Named p row.0.0 row.1) (is.here found.0 found.1) row.4),
      λ named.
          let live = spotted place key body named in
          let spot = spot_at live.0 place in
          chosen_to (live_at state.entries) piece spot (key, body)
          (in_piece spots is.before piece is.behind spot is.whole (λ among. is.none_before spot among refl) (λ among. is.none_behind spot among refl) live.2)
          (ap (option_and_then live_row) live.3 ∙ ap (λ op. option_and_then {U = Row} (λ (b : Body). Some (key, b)) (body_of op)) live.4),
    ),
  )
    where
      rises : (a b : Spot) → Contains piece a → Contains piece b → spot_cmp a b ≡ Less → nat_cmp a.at b.at ≡ Less
      rises a b in_a in_b below =
          let level : bytes_cmp a.place b.place ≡ Equal = (λ i. bytes_cmp (is.here a in_a i) (is.here b in_b i)) ∙ tied_itself nat_list_cmp_total place in
          sym (ap (λ o. ordering_then o (nat_cmp a.at b.at)) level) ∙ below

      keeps : (a b : Spot) (c d : Row) → nat_cmp a.at b.at ≡ Less → live_at state.entries a ≡ Some c → live_at state.entries b ≡ Some d → key_cmp c.0 d.0 ≡ Less
      keeps a b c d before is_c is_d =
          let from_a = live_from state.entries a c is_c in
          let from_b = live_from state.entries b d is_d in
          sym (λ i. key_cmp (from_a.2 i) (from_b.2 i))
          ∙ at_ascends _ state.entries up a.at b.at from_a.0 from_b.0 (ranked a.at b.at Less (sym before)) from_a.1 from_b.1

-- in the index of calls, the row for a place and a key has this place and this key
call_unwrap : (place : List ℕ) (key : Key) (row : CallingRow) → calling_row place key ≡ Some row → (row.0 ≡ place) × (key ≡ schedule_key row.1)
call_unwrap = search (rules, some_is, none_some)

link_unwrap : (place : List ℕ) (key : Key) (row : LinkedRow) → linked_row place key ≡ Some row → (row.0 ≡ place) × (key ≡ association_key row.1)
link_unwrap = search (rules, some_is, none_some)

pub call_puts : (key : Key) (op : Op) (place : List ℕ) → Contains (call_places key op) place → (body : Body) × (op ≡ put_with body)
call_puts key op place among = let calls = call_back key op place among in (schedule_body calls.1, calls.3)

link_puts : (key : Key) (op : Op) (place : List ℕ) → Contains (link_places key op) place → (body : Body) × (op ≡ put_with body)
link_puts key op place among = let there = link_back key op place among in (association_body there.1, there.3)

module _ (live : Table) (place : List ℕ) where
  -- a live row names a place as a call if and only if it is a schedule that calls there
  call_named : (key : Key) (body : Body) → ((live key ≡ Some body) × Contains (call_places key (put_with body)) place)
      ↔ ((schedule : ScheduleKey) × (lines : List (List ℕ)) × (key ≡ schedule_key schedule) ×
      (body ≡ schedule_body lines) × IsCalling live place schedule lines)
  call_named key body = (
    λ named.
        let calls = call_back key (put_with body) place named.1 in
        let same : body ≡ schedule_body calls.1 = (let put = calls.3 in cc) in
        (calls.0, calls.1, calls.2, same, record { is_live = sym (ap live calls.2) ∙ named.0 ∙ ap Some same; calls = calls.4 }),
    λ told. (
      ap live told.2 ∙ told.4.is_live ∙ ap Some (sym told.3),
      subst (λ (row : Row). Contains (call_places row.0 (put_with row.1)) place) (sym (λ i. (told.2 i, told.3 i)))
          (call_forth told.0 told.1 place told.4.calls),
    ),
  )

  -- a live row names a place as an association if and only if it is an association there
  link_named : (key : Key) (body : Body) → ((live key ≡ Some body) × Contains (link_places key (put_with body)) place)
      ↔ ((key_2 : AssociationKey) × (line : List ℕ) × (key ≡ association_key key_2) × (body ≡ association_body line) × IsLinked live place key_2 line)
  link_named = search (rules, link_back, link_forth)

module _ (state : State) (up : AreAscending state.entries) (spots : List Spot) where
  pub calls_index : AreSpotsOf call_places state.entries spots → IsCallingIndex (live_table state) (calling_rows state.entries spots)
  calls_index of = record {
    ascending = index_ascends schedule_key calling_row call_unwrap schedule_key_cmp (λ a b less. less) state.entries up spots of.ascending;
    members = λ place key.
        let there = listed call_places call_puts state up spots of schedule_key calling_row call_unwrap (λ p k. refl) place key in (
          λ among.
              let body = there.0 among in
              let calls = call_back (schedule_key key) (put_with body.0) place body.1.1 in
              let same : body.0 ≡ schedule_body calls.1 = (let put = calls.3 in cc) in
              (calls.1, record { is_live = body.1.0 ∙ ap Some same; calls = calls.4 }),
          λ (lines, made). there.1 (schedule_body lines, (made.is_live, call_forth key lines place made.calls)),
        );
  }

  pub links_index : AreSpotsOf link_places state.entries spots → IsLinkedIndex (live_table state) (linked_rows state.entries spots)
  links_index of = record {
    ascending = index_ascends association_key linked_row link_unwrap association_key_cmp (λ a b less. less) state.entries up spots of.ascending;
    members = λ place key.
        let there = listed link_places link_puts state up spots of association_key linked_row link_unwrap (λ p k. refl) place key in
        search (rules, link_back, link_forth, there.0, there.1);
  }

  -- the rows that a place's spots (each a TIPLOC and a row's index) name are exactly the live schedules that call there
  pub calling_there : AreSpotsOf call_places state.entries spots → (place : List ℕ) (piece : List Spot) → IsPieceAt place spots piece
      → AreCalling (live_table state) place (rows_at_spots state.entries piece)
  calling_there of place piece is =
      let there = rows_there call_places call_puts state up spots of place piece is in
      let named = call_named (live_table state) place in
      record {
        ascending = there.0;
        members = λ key body. (λ among. (named key body).0 ((there.1 key body).0 among), λ told. (there.1 key body).1 ((named key body).1 told));
      }

  -- the rows that a place's spots (each a TIPLOC and a row's index) name are exactly the live associations there
  pub linked_there : AreSpotsOf link_places state.entries spots → (place : List ℕ) (piece : List Spot) → IsPieceAt place spots piece
      → AreLinked (live_table state) place (rows_at_spots state.entries piece)
  linked_there of place piece is =
      let there = rows_there link_places link_puts state up spots of place piece is in
      let named = link_named (live_table state) place in
      record {
        ascending = there.0;
        members = λ key body. (λ among. (named key body).0 ((there.1 key body).0 among), λ told. (there.1 key body).1 ((named key body).1 told));
      }

-- if the rows that a place's spots name are the rows that a relation says, so are the rows that are found through equal spots
pub rows_found : (R : List ℕ → List Row → Type 0) (places : Places) (state : State) (rows : List Keyed) → state.entries ≡ rows → AreAscending rows
    → (spots slice : List Spot) → slice ≡ spots → AreSpotsOf places rows spots → (place field : List ℕ) → field ≡ place
    → (piece : List Spot) → IsPieceAt field slice piece → (result : List Row) → result ≡ rows_at_spots rows piece
    → (AreAscending state.entries → AreSpotsOf places state.entries spots → IsPieceAt place spots piece → R place (rows_at_spots state.entries piece))
    → R place result
rows_found R places state rows same up spots slice slice_is of place field field_is piece is result result_is there =
    subst (R place) (sym (result_is ∙ sym (ap (λ (all : List Keyed). rows_at_spots all piece) same)))
    (there (subst AreAscending (sym same) up) (subst (λ (all : List Keyed). AreSpotsOf places all spots) (sym same) of)
    (subst (λ p. IsPieceAt p spots piece) field_is (subst (λ zs. IsPieceAt field zs piece) slice_is is)))
