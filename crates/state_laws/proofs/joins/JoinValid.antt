-- The join of valid states is valid. A valid state is still valid after its horizon is raised. The
-- floor of a valid state's ledger is the file stamp of its first full extract.
use Rattle.cif_laws.proofs.Common.{List, Contains, subst, sym, Some, None, map, inl, inr, ℕ, rules, ◌++◌, ap, ◌≡◌, refl, ◌∙◌, true, false, eqb-true, All}
use Rattle.cif_laws.proofs.Common.{Option, max, option_map, find, ◌==◌, All-contains, Contains-append_left, Contains-append_right, Contains-append_cases, IsDay}
use Rattle.cif_laws.proofs.Common.{last_day, Key, IsAtMost, FileStamp, LedgerItem, file_stamp_cmp, IsFloor, IsKept, IsFull, Op, deleted, lapsed, put_with}
use Rattle.cif_laws.proofs.Common.{Entry, lapse, lapse_entry, HasNotToLapse, lapse_entries, IsOpOf, IsGoodEntry, State, IsJoin, IsValid, IsGoodItem}
use Rattle.cif_laws.proofs.Common.{lapse_state, raise_horizon, eq-eqb}
use Rattle.cif_laws.proofs.orders.Orders.{file_stamp_total, exact_file_stamp}
use Rattle.cif_laws.proofs.lists.Membership.{Contains-map, map-Contains, all_members, member_of}
use Rattle.cif_laws.proofs.orders.AtMost.{level}
use Rattle.state_laws.proofs.states.OneJoin.{floor_unique}
use Rattle.state_laws.proofs.states.PlainTable.{Keyed}
use Rattle.state_laws.proofs.states.ReducedEntries.{IsReduced}
use Rattle.state_laws.proofs.states.ReducedMembers.{kept_floor}
use Rattle.state_laws.proofs.joins.JoinLaws.{join_reduced}
use Rattle.cif_laws.proofs.lists.FilteredMembers.{find_some, find_none}
use Rattle.state_laws.proofs.states.Lapse.{has_lapsed, max_most}
use Rattle.state_laws.proofs.states.LapsedGreatest.{lapsed_from}
use Rattle.state_laws.proofs.states.KeptEntries.{lapse_ascends}

-- suppose that the joined ledger has each item of `ledger`, unless the item is below the floor.
-- Then each file stamp in `ledger` that isn't below the floor is also in the joined ledger
pub stamp_stays : (ledger joined : List LedgerItem) (floor : Option FileStamp) → ((item : LedgerItem) → Contains ledger item → IsKept floor item.stamp
    → Contains joined item)
    → (stamp : FileStamp) → IsKept floor stamp → Contains (map (λ (item : LedgerItem). item.stamp) ledger) stamp
    → Contains (map (λ (item : LedgerItem). item.stamp) joined) stamp
stamp_stays ledger joined floor to stamp kept among =
    let found = Contains-map (λ (item : LedgerItem). item.stamp) ledger stamp among in
    subst (Contains (map (λ (item : LedgerItem). item.stamp) joined)) found.2
    (map-Contains (λ (item : LedgerItem). item.stamp) joined found.0 (to found.0 found.1 (subst (IsKept floor) (sym found.2) kept)))

-- after lapsing, a well-formed op is still well formed
op_lapses : (horizon : ℕ) (key : Key) (op : Op) → IsOpOf key op → IsOpOf key (lapse horizon op)
op_lapses horizon key deleted good = tt
op_lapses horizon key lapsed good = tt
op_lapses horizon key (put_with body) good = search rules

-- after lapsing, a good entry is still good
pub good_lapses : (horizon : ℕ) (ledger : List LedgerItem) (key : Key) (entry : Entry) → IsGoodEntry ledger (key, entry)
    → IsGoodEntry ledger (key, lapse_entry horizon entry)
good_lapses horizon ledger key entry good = record { key = good.key; stamp = good.stamp; op = op_lapses horizon key entry.op good.op }

-- a reduction of good items and good entries is a valid state, if its horizon is a day number
pub reduced_is_valid : (items : List LedgerItem) (entries : List Keyed) (state : State) (is : IsReduced items entries state) → IsDay state.horizon
    → ((item : LedgerItem) → Contains items item → IsGoodItem item)
    → ((key : Key) (entry : Entry) → Contains entries (key, entry) → IsKept is.floor entry.stamp.file → IsGoodEntry state.ledger (key, entry))
    → IsValid state
reduced_is_valid items entries state is day good_items good = record {
  horizon = day;
  ledger = record {
    each = all_members IsGoodItem state.ledger (λ item among. good_items item ((is.ledger item).0 among).0);
    ascending = is.ledger_ascends;
    floor = is.floor;
    is_floor = kept_floor items state.ledger is.floor is.is_floor (λ item among. ((is.ledger item).0 among).0)
        (λ item among kept. (is.ledger item).1 (among, kept));
    kept = all_members _ state.ledger (λ item among. ((is.ledger item).0 among).1);
  };
  entries = (
    all_members _ state.entries (λ entry among.
        let told = (is.of_keys entry.0 entry.1).0 among in
        subst (λ e. IsGoodEntry state.ledger (entry.0, e)) told.3
        (good_lapses state.horizon state.ledger entry.0 told.0 (good entry.0 told.0 told.1.among told.2))),
    is.entries_ascend,
  );
  have_lapsed = all_members _ state.entries (λ entry among.
      let told = (is.of_keys entry.0 entry.1).0 among in
      subst (HasNotToLapse state.horizon) (ap (λ (e : Entry). e.op) told.3) (has_lapsed state.horizon told.0.op));
}

-- the join of valid states is valid
pub join_is_valid : (first second joined : State) → IsValid first → IsValid second → IsJoin first second joined → IsValid joined
join_is_valid first second joined one two is =
    reduced_is_valid (first.ledger ++ second.ledger) (first.entries ++ second.entries) joined reduced
    (subst IsDay (sym is.horizon) (max_most _ second.horizon _ one.horizon two.horizon))
    (λ item among. elim (Contains-append_cases first.ledger second.ledger item among) [
      | inl here ↦ All-contains IsGoodItem first.ledger item one.ledger.each here
      | inr here ↦ All-contains IsGoodItem second.ledger item two.ledger.each here
    ])
    (λ key entry among kept. elim (Contains-append_cases first.entries second.entries (key, entry) among) [
      | inl here ↦
          moved first.ledger (λ item inside keeps. (reduced.ledger item).1 (Contains-append_left first.ledger second.ledger item inside, keeps))
          (key, entry) kept
          (All-contains (IsGoodEntry first.ledger) first.entries (key, entry) one.entries.0 here)
      | inr here ↦
          moved second.ledger (λ item inside keeps. (reduced.ledger item).1 (Contains-append_right first.ledger second.ledger item inside, keeps))
          (key, entry) kept
          (All-contains (IsGoodEntry second.ledger) second.entries (key, entry) two.entries.0 here)
    ])
  where
    reduced : IsReduced (first.ledger ++ second.ledger) (first.entries ++ second.entries) joined
    reduced = join_reduced first second joined is

    moved : (ledger : List LedgerItem) → ((item : LedgerItem) → Contains ledger item → IsKept reduced.floor item.stamp → Contains joined.ledger item)
        → (entry : Key × Entry) → IsKept reduced.floor entry.1.stamp.file → IsGoodEntry ledger entry → IsGoodEntry joined.ledger entry
    moved ledger to entry kept good = record {
      key = good.key;
      stamp = record {
        in_ledger = stamp_stays _ joined.ledger _ to entry.1.stamp.file kept good.stamp.in_ledger;
        low = good.stamp.low;
        high = good.stamp.high;
      };
      op = good.op;
    }

-- if the horizon is a day number, a valid state is still valid after lapsing with this horizon
pub lapsed_is_valid : (horizon : ℕ) (state : State) → IsDay horizon → IsValid state → IsValid (lapse_state horizon state)
lapsed_is_valid horizon state day valid = record {
  horizon = day;
  ledger = valid.ledger;
  entries = (
    all_members (IsGoodEntry state.ledger) (lapse_entries horizon state.entries) (λ entry among.
        let told = lapsed_from horizon state.entries entry.0 entry.1 among in
        subst (λ e. IsGoodEntry state.ledger (entry.0, e)) told.2
        (good_lapses horizon state.ledger entry.0 told.0 (member_of (IsGoodEntry state.ledger) state.entries (entry.0, told.0) valid.entries.0 told.1))),
    lapse_ascends horizon state.entries valid.entries.1,
  );
  have_lapsed = all_members (λ (entry : Key × Entry). HasNotToLapse horizon entry.1.op) (lapse_entries horizon state.entries) (λ entry among.
      let told = lapsed_from horizon state.entries entry.0 entry.1 among in
      subst (HasNotToLapse horizon) (ap (λ (e : Entry). e.op) told.2) (has_lapsed horizon told.0.op));
}

-- if the horizon is a day number, a valid state is still valid after this horizon is set
pub raised_is_valid : (horizon : ℕ) (state : State) → IsDay horizon → IsValid state → IsValid (raise_horizon horizon state)
raised_is_valid horizon state day valid = lapsed_is_valid (max state.horizon horizon) state (max_most state.horizon horizon last_day valid.horizon day) valid

-- ---- the ledger of a valid state has exactly one floor

-- the ledger of a state has at most one floor
pub one_floor : (state : State) (first second : Option FileStamp) → IsFloor state.ledger first → IsFloor state.ledger second → first ≡ second
one_floor state = floor_unique state.ledger state.ledger (λ item. (λ x. x, λ x. x))

-- the file stamp of the first full extract among the items, or `None` if no item is for a full
-- extract
abbrev pub first_full : List LedgerItem → Option FileStamp
first_full ledger = option_map (λ (item : LedgerItem). item.stamp) (find (λ (item : LedgerItem). item.indicator == 70) ledger)

-- the option is the file stamp of some full extract among the items, or it is `None` and no item is
-- for a full extract
FirstFull : List LedgerItem → Option FileStamp → Type 0
FirstFull ledger None = (item : LedgerItem) → Contains ledger item → ¬ IsFull item
FirstFull ledger (Some stamp) = (item : LedgerItem) × Contains ledger item × IsFull item × (item.stamp ≡ stamp)

first_full_is : (ledger : List LedgerItem) → FirstFull ledger (first_full ledger)
unfolding FirstFull
first_full_is ledger = (elim (find (λ (item : LedgerItem). item.indicator == 70) ledger) as
    (λ found. find (λ (item : LedgerItem). item.indicator == 70) ledger ≡ found → FirstFull ledger (option_map (λ (item : LedgerItem). item.stamp) found)) [
      | None ↦ λ h item among full.
          let fails : (item.indicator == 70) ≡ false = find_none (λ (i : LedgerItem). i.indicator == 70) ledger item h among in
          let passes : (item.indicator == 70) ≡ true = eq-eqb item.indicator 70 full in cc
      | Some item ↦ λ h.
          let told = find_some (λ (i : LedgerItem). i.indicator == 70) ledger item h in (item, told.0, eqb-true item.indicator 70 told.1, refl)
    ]) refl

-- the floor of a valid state's ledger is the file stamp of its first full extract
pub floor_is_first_full : (state : State) → IsValid state → IsFloor state.ledger (first_full state.ledger)
unfolding FirstFull
floor_is_first_full state valid =
    by (first_full state.ledger) valid.ledger.floor (first_full_is state.ledger) valid.ledger.is_floor valid.ledger.kept
  where
    by : (found floor : Option FileStamp) → FirstFull state.ledger found → IsFloor state.ledger floor → All (λ item. IsKept floor item.stamp) state.ledger
        → IsFloor state.ledger found
    by None floor none is kept = none
    by (Some stamp) None some none kept = absurd (none some.0 some.1 some.2)
    by (Some stamp) (Some floor) some greatest kept =
        let up : IsAtMost file_stamp_cmp floor some.0.stamp = All-contains (λ item. IsKept (Some floor) item.stamp) state.ledger some.0 kept some.1 in
        let down : IsAtMost file_stamp_cmp some.0.stamp floor = greatest.greatest some.0 some.1 some.2 in
        let same : floor ≡ stamp = exact_file_stamp floor some.0.stamp (level file_stamp_total floor some.0.stamp up down) ∙ some.3 in
        subst (λ s. IsFloor state.ledger (Some s)) same greatest
