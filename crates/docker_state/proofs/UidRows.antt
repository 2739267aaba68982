-- The rows of a UID's schedules are next to each other. The live rows among them are the UID's live
-- schedules.
use Rattle.cif_laws.proofs.Common.{◌≡◌, ℕ, ◌-◌, ◌<◌, ◌≤◌, List, ◌++◌, map, take, drop, length, get_or, rules, refl, ap, sym, ◌∙◌, subst, Bool, true, false, not}
use Rattle.cif_laws.proofs.Common.{nat_lt, Contains, Some, None, arith, position_or_len, IsPartitionedBy, IsPartitionPoint, Ordering, Less, Equal, Greater}
use Rattle.cif_laws.proofs.Common.{is_lt, ordering_then, nat_cmp, tied_itself, nat_list_cmp_total, ltb-false, map-append, All-contains, exact_bytes}
use Rattle.cif_laws.proofs.Common.{schedule_key, ScheduleKey, Body, tiploc_body, association_body, schedule_body, key_cmp, schedule_key_cmp, put_with}
use Rattle.cif_laws.proofs.Common.{bytes_cmp, State, AreAscending as AscendMeant, IsValid, IsGoodEntry, IsOpOf, live_table}
use Rattle.std.specs.List.{position}
use Rattle.std.specs.Ordering.{is_le}
use Rattle.std.proofs.lemmas.List.Sums.{fails_before_first, passes_at_first, prefix_len-le-length}
use Rattle.docker_model.specs.file.Change as model
use Rattle.state_laws.specs.Index.{AreOfUid}
use Rattle.docker_model.specs.state.Op as ops
use Rattle.cif_laws.proofs.lists.Membership.{Contains-map}
use Rattle.cif_change.specs.Meaning.{key_meant}
use Rattle.cif_change.specs.declared.key.Key.{Key}
use Rattle.docker_join.specs.declared.entry.Entry.{Entry}
use Rattle.docker_join.specs.Rows.{AreAscending}
use Rattle.docker_join.specs.Meaning.{row_meant}
use Rattle.docker_join.specs.Rows.{row_cmp}
use Rattle.state_index.proofs.Pieces.{in_whole, in_piece, parted_by, piece_ascends, piece_parts}
use Rattle.docker_state.specs.Live.{live_rows}
use Rattle.docker_state.specs.UidPiece.{to_uid, is_before, AreTo, IsBeginning, IsPieceOfUid}
use Rattle.docker_state.proofs.LiveTable.{PutThere, from_live, to_live, live_has, live_put, ascends}

-- ---- a monotone test passes for the first rows and fails for all rows after them

-- Says that a test of a comparison is monotone: it fails for `Greater`, and if it passes for `Equal`, it also passes for `Less`.
abbrev GoesDown : (Ordering → Bool) → Type 0
GoesDown test = (test Greater ≡ false) × (test Equal ≡ true → test Less ≡ true)

module _ (test : Ordering → Bool) (down : GoesDown test) (least : test Less ≡ true) (uid : List ℕ) where
  schedules : (a b : ScheduleKey) → schedule_key_cmp a b ≡ Less → test (bytes_cmp b.uid uid) ≡ true → test (bytes_cmp a.uid uid) ≡ true
  schedules a b below passes = by (bytes_cmp a.uid b.uid) refl below (bytes_cmp b.uid uid) refl passes
    where
      by : (o : Ordering) → bytes_cmp a.uid b.uid ≡ o
          → ordering_then o (ordering_then (nat_cmp a.runs_from b.runs_from) (nat_cmp a.indicator b.indicator)) ≡ Less
          → (p : Ordering) → bytes_cmp b.uid uid ≡ p → test p ≡ true → test (bytes_cmp a.uid uid) ≡ true
      by Greater at told p at_b passed = absurd (let bad : Greater ≡ Less = told in cc)
      by Equal at told p at_b passed = ap test (nat_list_cmp_total.congr a.uid b.uid uid at ∙ at_b) ∙ passed
      by Less at told Greater at_b passed = absurd (let bad : false ≡ true = sym down.0 ∙ passed in cc)
      by Less at told Less at_b passed = ap test (nat_list_cmp_total.trans a.uid b.uid uid at at_b) ∙ passed
      by Less at told Equal at_b passed = search (rules, nat_list_cmp_total.antisymm, nat_list_cmp_total.congr)

  passes_below : (a b : model.Key) → key_cmp a b ≡ Less → test (to_uid b uid) ≡ true → test (to_uid a uid) ≡ true
  passes_below = search (rules, schedules)

  parted : (rows : List (Key × Entry)) → AreAscending rows → IsPartitionedBy (λ row. test (to_uid (key_meant row.0) uid)) rows
  parted = parted_by row_cmp (λ row. test (to_uid (key_meant row.0) uid)) (λ a b. passes_below (key_meant a.0) (key_meant b.0))

-- whether a row's key is below the keys of the UID's schedules or among them
abbrev pub is_up_to : List ℕ → Key × Entry → Bool
is_up_to uid row = is_le (to_uid (key_meant row.0) uid)

-- in ascending rows, the rows whose keys are below the keys of the UID's schedules come first
pub parted_before : (uid : List ℕ) (rows : List (Key × Entry)) → AreAscending rows → IsPartitionedBy (is_before uid) rows
parted_before uid rows up = parted is_lt (refl, λ same. refl) refl uid rows up

-- in ascending rows, the rows whose keys are at most the greatest key of the UID's schedules come first
pub parted_up_to : (uid : List ℕ) (rows : List (Key × Entry)) → AreAscending rows → IsPartitionedBy (is_up_to uid) rows
parted_up_to uid rows up = parted is_le (refl, λ same. refl) refl uid rows up

-- ---- a walk back finds the UID's first schedule

-- if a row isn't before the UID's schedules, no later row is before them
module _ (uid : List ℕ) (rows : List (Key × Entry)) (up : AreAscending rows) (first : ℕ) (within : first < length rows)
    (here : (d : Key × Entry) → is_before uid (get_or rows first d) ≡ false) where
  rest_behind : (k : ℕ) (d : Key × Entry) → first ≤ k → k < length rows → is_before uid (get_or rows k d) ≡ false
  rest_behind = search (rules, parted_before)

  -- if the backward walk ends at index 0, the UID's schedules begin at index 0
  pub begins_at_front : first ≡ 0 → IsBeginning uid rows first
  begins_at_front zero_is = (λ k d low high. absurd (let none : k < 0 = subst (λ n. k < n) zero_is high in omega arith), rest_behind)

  -- if the backward walk ends after a row that is before the UID's schedules, the schedules begin at the next row
  pub begins_after : (0 < first) → ((d : Key × Entry) → is_before uid (get_or rows (first - 1) d) ≡ true) → IsBeginning uid rows first
  begins_after above before = (λ k d low high. parted_before uid rows up k (first - 1) d (omega arith) (omega arith) (before d), rest_behind)

-- if no row is after the UID's schedules, the index just after these schedules is the number of rows
pub walk_of_all : (uid : List ℕ) (rows : List (Key × Entry)) → position (λ row. not (is_up_to uid row)) rows ≡ None
    → length rows ≡ position_or_len (λ row. not (is_up_to uid row)) rows
walk_of_all = search (rules, not, nat_lt, prefix_len-le-length, ltb-false)

-- the index just after the UID's schedules is at most the number of rows
pub walk_within : (uid : List ℕ) (rows : List (Key × Entry)) (end : ℕ) → end ≡ position_or_len (λ row. not (is_up_to uid row)) rows → end ≤ length rows
walk_within uid rows end end_is = subst (λ n. n ≤ length rows) (sym end_is) (prefix_len-le-length (λ row. not (not (is_up_to uid row))) rows)

-- the rows before the index `end` are the UID's schedules or come before them, and all other rows come after the UID's schedules
pub walk_parts : (uid : List ℕ) (rows : List (Key × Entry)) (end : ℕ) → AreAscending rows → end ≡ position_or_len (λ row. not (is_up_to uid row)) rows
    → IsPartitionPoint (λ row. is_up_to uid row ≡ true) (λ row. is_up_to uid row ≡ false) rows end
walk_parts uid rows end up end_is = (front, λ k d low high. by k d (is_up_to uid (get_or rows k d)) refl low high)
  where
    holds : (b : Bool) → not b ≡ false → b ≡ true
    holds true h = refl
    holds false h = absurd (let bad : true ≡ false = h in cc)

    front : (k : ℕ) (d : Key × Entry) → 0 ≤ k → k < end → is_up_to uid (get_or rows k d) ≡ true
    front k d low high = holds (is_up_to uid (get_or rows k d)) (fails_before_first (λ row. not (is_up_to uid row)) rows k d (subst (λ n. k < n) end_is high))

    first_fails : (d : Key × Entry) → end < length rows → is_up_to uid (get_or rows end d) ≡ false
    first_fails d within = search (rules, passes_at_first)

    by : (k : ℕ) (d : Key × Entry) (b : Bool) → is_up_to uid (get_or rows k d) ≡ b → end ≤ k → k < length rows → b ≡ false
    by k d false is low high = refl
    by k d true is low high =
        absurd (let passes : is_up_to uid (get_or rows end d) ≡ true = parted_up_to _ _ up end k d low high is in
        let never : is_up_to uid (get_or rows end d) ≡ false = first_fails d (omega arith) in
        let bad : true ≡ false = sym passes ∙ never in cc)

-- ---- the UID's schedules are neighbouring rows

less_of : (o : Ordering) → is_lt o ≡ true → o ≡ Less
less_of = search rules

equal_of : (o : Ordering) → is_lt o ≡ false → is_le o ≡ true → o ≡ Equal
equal_of = search rules

greater_of : (o : Ordering) → is_le o ≡ false → o ≡ Greater
greater_of = search rules

-- the `m` rows from index `n` on are exactly the UID's schedules
pub piece_is : (uid : List ℕ) (rows rest here : List (Key × Entry)) (n m : ℕ) → n ≤ length rows → rest ≡ drop n rows → m ≤ length rest → here ≡ take m rest
    → IsPartitionPoint (λ row. is_before uid row ≡ true) (λ row. is_before uid row ≡ false) rows n
    → IsPartitionPoint (λ row. is_up_to uid row ≡ true) (λ row. is_up_to uid row ≡ false) rest m → IsPieceOfUid uid rows here
piece_is uid rows rest here n m bound rest_is bound_too here_is first second =
    let parts = piece_parts (is_before uid) (is_up_to uid) rows rest here n m bound rest_is bound_too here_is first second in
    record {
      before = take n rows;
      behind = drop m rest;
      whole = parts.0;
      below = λ row among. less_of (to_uid (key_meant row.0) uid) (parts.1 row among);
      here = λ row among. let told = parts.2 row among in equal_of (to_uid (key_meant row.0) uid) told.0 told.1;
      above = λ row among. greater_of (to_uid (key_meant row.0) uid) (parts.3 row among);
    }

-- ---- the live rows among the UID's rows are the UID's live schedules

-- if `to_uid` returns `Equal` for a key and a UID, the key is the key of a schedule of this UID
of_uid_is : (key : model.Key) (uid : List ℕ) → to_uid key uid ≡ Equal → (schedule : ScheduleKey) × (key ≡ schedule_key schedule) × (schedule.uid ≡ uid)
of_uid_is = search (rules, exact_bytes)

-- a body that belongs under a schedule's key is a schedule's body
schedule_of : (key : ScheduleKey) (body : Body) → IsOpOf (schedule_key key) (put_with body) → (lines : List (List ℕ)) × (body ≡ schedule_body lines)
schedule_of key (tiploc_body bytes) good = absurd good
schedule_of key (association_body line) good = absurd good
schedule_of key (schedule_body lines) good = (lines, refl)

module _ (state : State) (valid : IsValid state) (uid : List ℕ) (rows piece : List (Key × Entry)) (rows_are : map row_meant rows ≡ state.entries)
    (is : IsPieceOfUid uid rows piece) where
  entries_are : state.entries ≡ (map row_meant is.before ++ map row_meant piece) ++ map row_meant is.behind
  entries_are = search (rules, map-append)

  piece_up : AscendMeant (map row_meant piece)
  piece_up = search (rules, piece_ascends, entries_are)

  in_entries : (pair : model.Key × ops.Entry) → Contains (map row_meant piece) pair → Contains state.entries pair
  in_entries pair = in_whole state.entries (map row_meant is.before) (map row_meant piece) (map row_meant is.behind) pair entries_are

  -- if `to_uid` returns `order` for each row in a list, it returns `order` for each converted row too
  stands : (order : Ordering) (some : List (Key × Entry)) → AreTo order uid some → (pair : model.Key × ops.Entry) → Contains (map row_meant some) pair
      → to_uid pair.0 uid ≡ order
  stands order some all pair among =
      let row = Contains-map row_meant some pair among in
      ap (λ (p : model.Key × ops.Entry). to_uid p.0 uid) (sym row.2) ∙ all row.0 row.1

  in_rows : (pair : model.Key × ops.Entry) → Contains state.entries pair → to_uid pair.0 uid ≡ Equal → Contains (map row_meant piece) pair
  in_rows pair among tied = in_piece state.entries (map row_meant is.before) (map row_meant piece) (map row_meant is.behind) pair entries_are
      (λ early. let bad : Less ≡ Equal = sym (stands Less is.before is.below pair early) ∙ tied in cc)
      (λ late. let bad : Greater ≡ Equal = sym (stands Greater is.behind is.above pair late) ∙ tied in cc) among

  IsLiveSchedule : model.Key → Body → Type 0
  IsLiveSchedule key body = (schedule : ScheduleKey) × (lines : List (List ℕ)) × (key ≡ schedule_key schedule) × (body ≡ schedule_body lines) ×
      (live_table state key ≡ Some body) × (schedule.uid ≡ uid)

  live_schedule_of : (key : model.Key) (body : Body) → PutThere (map row_meant piece) key body → IsLiveSchedule key body
  unfolding IsLiveSchedule
  live_schedule_of key body put =
      let among = in_entries (key, put.0) put.1 in
      let schedule = of_uid_is key uid (stands Equal piece is.here (key, put.0) put.1) in
      let good : IsOpOf key put.0.op = (All-contains (IsGoodEntry state.ledger) state.entries (key, put.0) valid.entries.0 among).op in
      let body_good : IsOpOf (schedule_key schedule.0) (put_with body) =
      subst (λ (k : model.Key). IsOpOf k (put_with body)) schedule.1 (subst (IsOpOf key) put.2 good) in
      let lines = schedule_of schedule.0 body body_good in
      (schedule.0, lines.0, schedule.1, lines.1, live_put state valid key body (put.0, among, put.2), schedule.2)

  back : (key : model.Key) (body : Body) → IsLiveSchedule key body → Contains (live_rows (map row_meant piece)) (key, body)
  unfolding IsLiveSchedule
  back key body made =
      let put = live_has state key body made.4 in
      let tied : to_uid key uid ≡ Equal =
      ap (λ (k : model.Key). to_uid k uid) made.2 ∙ ap (λ (u : List ℕ). bytes_cmp u uid) made.5 ∙ tied_itself nat_list_cmp_total uid in
      to_live (map row_meant piece) key put.0 body put.2 (in_rows (key, put.0) put.1 tied)

  -- the live rows in `piece`, which has the UID's rows, are exactly the UID's live schedules
  pub live_of_uid : (walked : List (model.Key × Body)) → walked ≡ live_rows (map row_meant piece) → AreOfUid (live_table state) uid walked
  unfolding IsLiveSchedule
  live_of_uid walked walked_is = subst (AreOfUid (live_table state) uid) (sym walked_is) (search (rules, ascends, piece_up, live_schedule_of, from_live, back))
