-- Ledger items and entries can be reduced with a horizon. The result is a state. It has the items
-- that aren't below the floor of all items, and the greatest entry for each key if that entry isn't
-- below the floor. Each entry whose body ended before the horizon has lapsed. A reduction in two
-- steps equals the reduction in one step, if the horizon of the first step is at most the horizon
-- of the second step.
use Rattle.cif_laws.proofs.Common.{◌≡◌, ℕ, ◌≤◌, List, ◌++◌, Contains, subst, inl, inr, ◌⊎◌, ap, sym, ◌∙◌, Some, None, rules, Option, ◌↔◌, max-eq_left}
use Rattle.cif_laws.proofs.Common.{Contains-append_left, Contains-append_right, Contains-append_cases, Key, IsAtMost, IsStrictlyAscending, FileStamp}
use Rattle.cif_laws.proofs.Common.{LedgerItem, file_stamp_cmp, ledger_item_cmp, IsFull, IsFloor, IsKept, lapsed, Entry, entry_cmp, lapse, lapse_entry, State}
use Rattle.cif_laws.proofs.Common.{AreAscending, IsGreatestAmong}
use Rattle.cif_laws.proofs.orders.Orders.{file_stamp_total, entry_total}
use Rattle.cif_laws.proofs.orders.AtMost.{at_most_trans, at_most_itself}
use Rattle.state_laws.proofs.states.PlainTable.{Keyed, one_per_key}
use Rattle.state_laws.proofs.states.GreatestEntry.{NoEntry, GreatestEntry, greatest_in}
use Rattle.state_laws.proofs.states.Lapse.{lapse_entry_keeps_order, entry_twice, entry_stays}
use Rattle.state_laws.proofs.states.KeptEntries.{kept_up, lapse_below, level_lapsed, lapses_or_not}

-- a reduction keeps `entry` for the key: it is the key's greatest entry, lapsed with the horizon.
-- The greatest entry isn't below the floor
abbrev pub KeptOf : List Keyed → Option FileStamp → ℕ → Key → Entry → Type 0
KeptOf entries floor horizon key entry =
    (greatest : Entry) × IsGreatestAmong entries key greatest × IsKept floor greatest.stamp.file × (lapse_entry horizon greatest ≡ entry)

-- the state is made by reducing these items and entries with its horizon. It has the items that
-- aren't below the floor of all items. It has the greatest entry for each key, lapsed with the
-- horizon, unless that entry is below the floor
pub record IsReduced (items : List LedgerItem) (entries : List Keyed) (state : State) : Type 0 where
  pub floor : Option FileStamp
  pub is_floor : IsFloor items floor
  pub ledger_ascends : IsStrictlyAscending ledger_item_cmp state.ledger
  pub ledger : (item : LedgerItem) → Contains state.ledger item ↔ (Contains items item × IsKept floor item.stamp)
  pub entries_ascend : AreAscending state.entries
  pub of_keys : (key : Key) (entry : Entry) → Contains state.entries (key, entry) ↔ KeptOf entries floor state.horizon key entry

module _ (items more : List LedgerItem) (entries others : List Keyed) (once twice : State) (first : IsReduced items entries once)
    (second : IsReduced (once.ledger ++ more) (once.entries ++ others) twice)
    (rises : once.horizon ≤ twice.horizon) where
  -- ---- reducing ledgers in two steps gives the same ledger as reducing them in one step
  Top : LedgerItem → Type 0
  Top item = (top : LedgerItem) × Contains (once.ledger ++ more) top × IsFull top × IsAtMost file_stamp_cmp item.stamp top.stamp

  top_of : (item : LedgerItem) → Contains (items ++ more) item → IsFull item → Top item
  unfolding Top
  top_of item among full = elim (Contains-append_cases items more item among) [
    | inl here ↦ under first.floor first.is_floor (λ i inside kept. (first.ledger i).1 (inside, kept)) here
    | inr here ↦ (item, Contains-append_right once.ledger more item here, full, at_most_itself file_stamp_total item.stamp)
  ]
    where
      under : (floor : Option FileStamp) → IsFloor items floor → ((i : LedgerItem) → Contains items i → IsKept floor i.stamp → Contains once.ledger i)
          → Contains items item → Top item
      under None none there here = absurd (none item here full)
      under (Some stamp) greatest there here =
          let kept : IsAtMost file_stamp_cmp stamp greatest.full.stamp = search rules in (
            greatest.full,
            Contains-append_left once.ledger more greatest.full (there greatest.full greatest.among kept),
            greatest.is_full,
            subst (λ s. IsAtMost file_stamp_cmp item.stamp s) (sym greatest.stamped) (greatest.greatest item here full),
          )

  back_to : (item : LedgerItem) → Contains (once.ledger ++ more) item → Contains (items ++ more) item
  back_to item among = elim (Contains-append_cases once.ledger more item among) [
    | inl here ↦ Contains-append_left items more item ((first.ledger item).0 here).0
    | inr here ↦ Contains-append_right items more item here
  ]

  whole_floor : (floor : Option FileStamp) → IsFloor (once.ledger ++ more) floor → IsFloor (items ++ more) floor
  unfolding Top
  whole_floor None none = λ item among full. let top = top_of _ among full in none top.0 top.1 top.2
  whole_floor (Some stamp) greatest = record {
    full = greatest.full;
    among = back_to greatest.full greatest.among;
    is_full = greatest.is_full;
    stamped = greatest.stamped;
    greatest =
        λ item among full. let top = top_of _ among full in at_most_trans file_stamp_total item.stamp _ stamp top.3 (greatest.greatest top.0 top.1 top.2);
  }

  kept_down : (low high : Option FileStamp) → IsFloor items low → IsFloor (items ++ more) high → (stamp : FileStamp) → IsKept high stamp → IsKept low stamp
  kept_down None high one whole stamp kept = tt
  kept_down (Some low) None one whole stamp kept = absurd (whole one.full (Contains-append_left items more one.full one.among) one.is_full)
  kept_down (Some low) (Some high) one whole stamp kept = at_most_trans file_stamp_total _ high _
      (subst (λ s. IsAtMost file_stamp_cmp s high) one.stamped (whole.greatest one.full (Contains-append_left items more one.full one.among) one.is_full)) kept

  kept_first : (stamp : FileStamp) → IsKept second.floor stamp → IsKept first.floor stamp
  kept_first stamp kept = kept_down first.floor second.floor first.is_floor (whole_floor second.floor second.is_floor) stamp kept

  ledger_in : (item : LedgerItem) → Contains (items ++ more) item → IsKept second.floor item.stamp → Contains (once.ledger ++ more) item
  ledger_in item among kept = elim (Contains-append_cases items more item among) [
    | inl here ↦ Contains-append_left once.ledger more item ((first.ledger item).1 (here, kept_first item.stamp kept))
    | inr here ↦ Contains-append_right once.ledger more item here
  ]

  -- ---- reducing entries in two steps gives the same entries as reducing them in one step
  module _ (key : Key) where
    -- each entry for a key in the second step of the reduction is at most the greatest of all
    -- entries for the key
    under_best : (best : Entry) → IsGreatestAmong (entries ++ others) key best → (other : Entry) → Contains (once.entries ++ others) (key, other)
        → IsAtMost entry_cmp other best
    under_best best is other among = elim (Contains-append_cases once.entries others (key, other) among) [
      | inr here ↦ is.greatest other (Contains-append_right entries others (key, other) here)
      | inl here ↦
          let told = (first.of_keys key other).0 here in
          at_most_trans entry_total other _ best (subst (λ e. IsAtMost entry_cmp e told.0) told.3 (lapse_below _ told.0))
          (is.greatest told.0 (Contains-append_left entries others (key, told.0) told.1.among))
    ]

    -- suppose that the greatest of all entries for a key isn't below the floor. Either it is in
    -- `others`, or the first step of the reduction keeps it, lapsed with the horizon of this step
    stands : (best : Entry) → IsGreatestAmong (entries ++ others) key best → IsKept second.floor best.stamp.file
        → Contains once.entries (key, lapse_entry once.horizon best) ⊎ Contains others (key, best)
    stands best is kept = elim (Contains-append_cases entries others (key, best) is.among) [
      | inr here ↦ inr here
      | inl here ↦ inl ((first.of_keys key (lapse_entry once.horizon best)).1 (
        best,
        record { among = here; greatest = λ other inside. is.greatest other (Contains-append_left entries others (key, other) inside) },
        kept_first _ kept,
        λ i. lapse_entry once.horizon best,
      ))
    ]

    -- let `best` be the greatest of all entries for a key, and `top` the key's greatest entry among
    -- the entries that the second step of the reduction receives. Lapsing makes them equal
    same_lapse : (best top : Entry) → IsGreatestAmong (entries ++ others) key best → IsGreatestAmong (once.entries ++ others) key top
        → IsKept second.floor best.stamp.file → IsKept second.floor top.stamp.file → lapse_entry twice.horizon best ≡ lapse_entry twice.horizon top
    same_lapse best top is_best is_top kept_best kept_top = elim (stands _ is_best kept_best) [
      | inl there ↦ elim (lapses_or_not once.horizon _) [
        | inl has ↦ between has there
        | inr has_not ↦ itself (Contains-append_left once.entries others (key, best)
            (subst (λ e. Contains once.entries (key, e)) (entry_stays once.horizon _ has_not) there))
      ]
      | inr there ↦ itself (Contains-append_right once.entries others (key, best) there)
    ]
      where
        -- lapsing makes `best` and `top` equal, if the second step of the reduction receives `best`
        -- itself
        itself : Contains (once.entries ++ others) (key, best) → lapse_entry twice.horizon best ≡ lapse_entry twice.horizon top
        itself there = one_per_key twice.entries second.entries_ascend _ (lapse_entry twice.horizon best) _
            ((second.of_keys key (lapse_entry twice.horizon best)).1 (
              best,
              record { among = there; greatest = under_best best is_best },
              kept_best,
              λ i. lapse_entry twice.horizon best,
            )) ((second.of_keys key (lapse_entry twice.horizon top)).1 (top, is_top, kept_top, λ i. lapse_entry twice.horizon top))

        -- lapsing makes `best` and `top` equal, if the first step of the reduction lapses `best`
        between : lapse once.horizon best.op ≡ lapsed → Contains once.entries (key, lapse_entry once.horizon best)
            → lapse_entry twice.horizon best ≡ lapse_entry twice.horizon top
        between has there =
            let twofold : lapse_entry twice.horizon (lapse_entry once.horizon best) ≡ lapse_entry twice.horizon best =
            entry_twice _ once.horizon _ ∙ ap (λ h. lapse_entry h best) (max-eq_left rises) in
            let gone : lapse twice.horizon best.op ≡ lapsed = sym (ap (λ (e : Entry). e.op) twofold) ∙ ap (lapse twice.horizon) has in
            let low : IsAtMost entry_cmp (lapse_entry twice.horizon best) (lapse_entry twice.horizon top) =
            subst (λ e. IsAtMost entry_cmp e (lapse_entry twice.horizon top)) twofold (lapse_entry_keeps_order twice.horizon _ top
            (is_top.greatest (lapse_entry once.horizon best) (Contains-append_left once.entries others (key, lapse_entry once.horizon best) there))) in
            let high : IsAtMost entry_cmp (lapse_entry twice.horizon top) (lapse_entry twice.horizon best) =
            lapse_entry_keeps_order _ top _ (under_best best is_best _ is_top.among) in
            sym (level_lapsed (lapse_entry twice.horizon top) _ gone high low)

    forth : (entry : Entry) → KeptOf (once.entries ++ others) second.floor twice.horizon key entry
        → KeptOf (entries ++ others) second.floor twice.horizon key entry
    forth entry told = elim (greatest_in (entries ++ others) key) [
      | inl none ↦ absurd (none some.0 some.1)
      | inr best ↦
          let is : IsGreatestAmong (entries ++ others) key best.0 = record { among = best.1; greatest = best.2 } in
          let kept = kept_up second.floor told.0 best.0 (under_best best.0 is told.0 told.1.among) told.2 in
          (best.0, is, kept, same_lapse best.0 told.0 is told.1 kept told.2 ∙ told.3)
    ]
      where
        some : (e : Entry) × Contains (entries ++ others) (key, e)
        some = elim (Contains-append_cases once.entries others (key, told.0) told.1.among) [
          | inl here ↦ let was = (first.of_keys key told.0).0 here in (was.0, Contains-append_left entries others (key, was.0) was.1.among)
          | inr here ↦ (told.0, Contains-append_right entries others (key, told.0) here)
        ]

    back : (entry : Entry) → KeptOf (entries ++ others) second.floor twice.horizon key entry
        → KeptOf (once.entries ++ others) second.floor twice.horizon key entry
    back entry told = by (greatest_in _ key) (stands _ told.1 told.2)
      where
        with_top : (below : Entry) → IsKept second.floor below.stamp.file → Contains (once.entries ++ others) (key, below)
            → GreatestEntry (once.entries ++ others) key → KeptOf (once.entries ++ others) second.floor twice.horizon key entry
        with_top below kept there top =
            let is : IsGreatestAmong (once.entries ++ others) key top.0 = record { among = top.1; greatest = top.2 } in
            let kept_top = kept_up second.floor _ top.0 (top.2 below there) kept in
            (top.0, is, kept_top, sym (same_lapse _ top.0 told.1 is told.2 kept_top) ∙ told.3)

        by : NoEntry (once.entries ++ others) key ⊎ GreatestEntry (once.entries ++ others) key → Contains once.entries (key, lapse_entry once.horizon told.0)
            ⊎ Contains others (key, told.0) → KeptOf (once.entries ++ others) second.floor twice.horizon key entry
        by (inl none) (inl there) =
            absurd (none (lapse_entry once.horizon told.0) (Contains-append_left once.entries others (key, lapse_entry once.horizon told.0) there))
        by (inl none) (inr there) = absurd (none told.0 (Contains-append_right once.entries others (key, told.0) there))
        by (inr top) (inl there) =
            with_top (lapse_entry once.horizon told.0) told.2 (Contains-append_left once.entries others (key, lapse_entry once.horizon told.0) there) top
        by (inr top) (inr there) = with_top told.0 told.2 (Contains-append_right once.entries others (key, told.0) there) top

  -- a reduction in two steps equals the reduction in one step
  pub reduced_twice : IsReduced (items ++ more) (entries ++ others) twice
  reduced_twice = record {
    floor = second.floor;
    is_floor = whole_floor _ second.is_floor;
    ledger_ascends = second.ledger_ascends;
    ledger = λ item. (
      λ among. let told = (second.ledger item).0 among in (back_to _ told.0, told.1),
      λ told. (second.ledger item).1 (ledger_in _ told.0 told.1, told.1),
    );
    entries_ascend = second.entries_ascend;
    of_keys = λ key entry. (
      λ among. forth _ entry ((second.of_keys key entry).0 among),
      λ told. (second.of_keys key entry).1 (back _ entry told),
    );
  }
