-- A reduction depends only on the members of the lists of items and entries, not on their order.
-- For a given horizon there is at most one reduction.
use Rattle.cif_laws.proofs.Common.{List, Some, None, ◌≡◌, subst, sym, rules, Contains, Option, on_total, Key, FileStamp, LedgerItem, IsFloor, IsKept, Entry}
use Rattle.cif_laws.proofs.Common.{IsGreatestAmong, State}
use Rattle.cif_laws.proofs.orders.Orders.{key_total, ledger_item_total, file_stamp_total}
use Rattle.cif_laws.proofs.orders.AtMost.{at_most_itself}
use Rattle.cif_laws.proofs.orders.Ascending.{same_list}
use Rattle.state_laws.proofs.states.OneJoin.{floor_unique}
use Rattle.state_laws.proofs.states.PlainTable.{Keyed}
use Rattle.state_laws.proofs.states.ReducedEntries.{KeptOf, IsReduced}
use Rattle.cif_laws.proofs.lists.Membership.{SameMembers, same_members_back}

-- leaving out items below the floor leaves the floor unchanged
pub kept_floor : (items ledger : List LedgerItem) (floor : Option FileStamp) → IsFloor items floor
    → ((item : LedgerItem) → Contains ledger item → Contains items item) → ((item : LedgerItem) → Contains items item → IsKept floor item.stamp
    → Contains ledger item)
    → IsFloor ledger floor
kept_floor items ledger None none from to = λ item among. none item (from item among)
kept_floor items ledger (Some stamp) greatest from to = search (rules, at_most_itself, file_stamp_total)

-- the greatest entry for a key depends only on the members of the list
pub greatest_along : (entries others : List Keyed) → SameMembers entries others → (key : Key) (entry : Entry) → IsGreatestAmong entries key entry
    → IsGreatestAmong others key entry
greatest_along entries others same key entry best = record {
  among = (same (key, entry)).0 best.among;
  greatest = λ other among. best.greatest other ((same (key, other)).1 among);
}

kept_of_along : (entries others : List Keyed) → SameMembers entries others → (f g : Option FileStamp) → f ≡ g → (h : _) (key : Key) (entry : Entry)
    → KeptOf entries f h key entry → KeptOf others g h key entry
kept_of_along entries others same f g floors h key entry told =
    (told.0, greatest_along entries others same key told.0 told.1, subst (λ floor. IsKept floor told.0.stamp.file) floors told.2, told.3)

-- a reduction depends only on the members of the lists of items and entries
pub reduced_along : (items more : List LedgerItem) (entries others : List Keyed) → SameMembers items more → SameMembers entries others
    → (state : State) → IsReduced items entries state → IsReduced more others state
reduced_along items more entries others same same_entries state is = record {
  floor = is.floor;
  is_floor = kept_floor items more is.floor is.is_floor (λ item among. (same item).1 among) (λ item among kept. (same item).0 among);
  ledger_ascends = is.ledger_ascends;
  ledger = λ item. (
    λ among. let told = (is.ledger item).0 among in ((same item).0 told.0, told.1),
    λ told. (is.ledger item).1 ((same item).1 told.0, told.1),
  );
  entries_ascend = is.entries_ascend;
  of_keys = λ key entry. (
    λ among. kept_of_along _ _ same_entries _ _ (λ i. is.floor) _ _ _ ((is.of_keys key entry).0 among),
    λ told. (is.of_keys key entry).1 (kept_of_along _ _ (same_members_back _ _ same_entries) _ _ (λ i. is.floor) _ _ _ told),
  );
}

-- for a given horizon, items and entries have at most one reduction
pub reduced_unique : (items : List LedgerItem) (entries : List Keyed) (s t : State) → s.horizon ≡ t.horizon → IsReduced items entries s
    → IsReduced items entries t → s ≡ t
reduced_unique items entries s t horizons is_s is_t =
    let floors : is_s.floor ≡ is_t.floor = floor_unique _ _ (λ item. (λ x. x, λ x. x)) _ _ is_s.is_floor is_t.is_floor in
    let ledgers : s.ledger ≡ t.ledger = same_list ledger_item_total _ _ is_s.ledger_ascends is_t.ledger_ascends (λ item. (
      λ among. let told = (is_s.ledger item).0 among in (is_t.ledger item).1 (told.0, subst (λ floor. IsKept floor item.stamp) floors told.1),
      λ among. let told = (is_t.ledger item).0 among in (is_s.ledger item).1 (told.0, subst (λ floor. IsKept floor item.stamp) (sym floors) told.1),
    )) in
    let pairs : s.entries ≡ t.entries = same_list (on_total (λ (entry : Keyed). entry.0) key_total) _ _ is_s.entries_ascend is_t.entries_ascend (λ entry. (
      λ among. (is_t.of_keys entry.0 entry.1).1 (moved is_s.floor is_t.floor floors s.horizon t.horizon horizons entry.0 entry.1
          ((is_s.of_keys entry.0 entry.1).0 among)),
      λ among. (is_s.of_keys entry.0 entry.1).1 (moved is_t.floor is_s.floor (sym floors) t.horizon s.horizon (sym horizons) entry.0 entry.1
          ((is_t.of_keys entry.0 entry.1).0 among)),
    )) in
    λ i. record { horizon = horizons i; ledger = ledgers i; entries = pairs i }
  where
    moved : (f g : Option FileStamp) → f ≡ g → (h k : _) → h ≡ k → (key : Key) (entry : Entry) → KeptOf entries f h key entry → KeptOf entries g k key entry
    moved f g fs h k hs key entry told = search rules
