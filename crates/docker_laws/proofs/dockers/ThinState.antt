-- A state that is made from the kept changes of a file is valid. For the place and the day, it has
-- the same docker as the summary of the file.
use Rattle.cif_laws.proofs.Common.{◌≡◌, ℕ, ◌-◌, ◌^◌, ◌<◌, ◌≤◌, List, [], ◌∷◌, length, map, subst, inl, inr, ◌⊎◌, rules, refl, ap, sym, ◌∙◌, Some, Contains, All}
use Rattle.cif_laws.proofs.Common.{arith, fold, Option, Bool, true, false, ◌==◌, eqb-true, eq-eqb, All-from_recursion, IsDay, IsFile, most_records, Key, Act}
use Rattle.cif_laws.proofs.Common.{Change, changes, IsBelow, IsAtMost, LedgerItem, FileStamp, IsFloor, file_stamp_of, stamp_cmp, IsKept, Op, Entry, entry_cmp}
use Rattle.cif_laws.proofs.Common.{body_of, op_of, Table, empty_table, IsPlainTable, HasNotToLapse, State, IsValid, IsLedger, IsGoodItem, IsGoodKey}
use Rattle.cif_laws.proofs.Common.{HasGoodBodies, IsGoodEntry, IsOpOf, live_table, IsSummary}
use Rattle.cif_laws.proofs.orders.AtMost.{at_most_itself}
use Rattle.docker_model.specs.state.Table.{after_file}
use Rattle.docker_laws.specs.Thinning.{thinned, thin_act, thin_change, table_of, IsThinning, IsStateOfChanges}
use Rattle.cif_laws.proofs.orders.Orders.{entry_total, file_stamp_total}
use Rattle.cif_laws.proofs.lists.Membership.{single-Contains, Contains-map, all_members}
use Rattle.cif_laws.proofs.lists.Later.{AllLater, later_map, later_map_weaker}
use Rattle.docker_laws.proofs.dockers.Sublists.{sublist_member, sublist_later}
use Rattle.cif_laws.proofs.files.ChangeOrder.{Apart, changes_apart}
use Rattle.cif_laws.proofs.files.FileChanges.{file_change}
use Rattle.state_laws.proofs.states.PlainTable.{Keyed, Found, NotFound, find_in, one_per_key, live_at, live_none, Ascends, NoneThere}
use Rattle.state_laws.proofs.states.PlainTable.{LastThere, last_there, step, entry_of_change, fold_entries, within_file}
use Rattle.state_laws.proofs.states.PlainLive.{lapse_table_none}
use Rattle.state_laws.proofs.states.LapsedPlainTable.{live_is_plain}
use Rattle.state_laws.proofs.states.SummaryValid.{item_good, summary_is_valid}
use Rattle.state_laws.proofs.states.GoodBodies.{good_bodies}
use Rattle.docker_laws.proofs.dockers.ThinBody.{needed_is_body}
use Rattle.docker_laws.proofs.dockers.ThinDocker.{thin_docker}
use Rattle.docker_laws.proofs.dockers.SameDocker.{HaveOneDocker}

-- ---- the live table of the state equals the table after the kept changes

module _ (file : List (List ℕ)) (kept : List Change) (state : State) (of : IsStateOfChanges file kept state) where
  abbrev entries : List Keyed
  entries = map (entry_of_change file) kept

  at_least : (entry other : Entry) → (other ≡ entry) ⊎ IsBelow stamp_cmp other.stamp entry.stamp → IsAtMost entry_cmp other entry
  at_least = search (rules, entry_total)

  -- suppose that, of two kept changes to one key, the later change has the higher record number.
  -- Then the live table of the state equals the table after the kept changes
  pub live_is_made : AllLater Apart kept → (key : Key) → live_table state key ≡ table_of kept key
  live_is_made apart key =
      by (last_there entries empty_table key (later_map_weaker (entry_of_change file) Apart Ascends (within_file file) kept apart)) (find_in state.entries key)
      ∙ sym (λ i. fold_entries file empty_table kept i key)
    where
      by : NoneThere entries empty_table key ⊎ LastThere entries empty_table key → Found state.entries key ⊎ NotFound state.entries key
          → live_table state key ≡ fold step empty_table entries key
      by (inl none) (inl found) = absurd (none.0 found.0.1 ((of.entries key found.0.1).0 found.2).among)
      by (inl none) (inr gone) = live_none state key gone.0 ∙ sym none.1
      by (inr last) (inl found) =
          let there = (of.entries key last.0).1 (record { among = last.1; greatest = λ other among. at_least last.0 other (last.3 other among) }) in
          let same = one_per_key state.entries of.ascending key found.0.1 last.0 found.2 there in
          live_at state key found.0 found.1 ∙ ap (λ (entry : Entry). body_of entry.op) same ∙ sym last.2
      by (inr last) (inr gone) =
          absurd (gone.1 last.0 ((of.entries key last.0).1 (search (rules, at_least))))

-- the live table of the summary of a file equals the table after the file's changes
pub live_of_summary : (file : List (List ℕ)) (whole : State) → IsSummary (file ∷ []) 0 whole → (key : Key)
    → live_table whole key ≡ after_file empty_table file key
live_of_summary file whole summary key = live_is_plain _ 0 _ (after_file empty_table file) summary plain _ ∙ lapse_table_none (after_file empty_table file) _
  where
    plain : IsPlainTable (file ∷ []) (after_file empty_table file)
    plain = record {
      ordered = file ∷ [];
      order = record { same = λ other. (λ among. among, λ among. among); ascending = (tt, tt) };
      is = λ other. refl;
    }

-- ---- each kept change is the thin form of a change of the file

module _ (place : List ℕ) (day : ℕ) (file : List (List ℕ)) (kept : List Change) (is : IsThinning place day (changes file) kept) where
  -- of two kept changes to one key, the later change has the higher record number
  pub kept_apart : AllLater Apart kept
  kept_apart = search (rules, sublist_later, later_map, changes_apart)

  -- a kept change is the thin form of a change of the file
  was_change : (change : Change) → Contains kept change → (whole : Change) × Contains (changes file) whole × (thin_change place day whole ≡ change)
  was_change change among = Contains-map _ _ _ (sublist_member _ _ _ is.some among)

  -- the live table of the state is the table after the file's changes, thinned for the place and
  -- the day
  pub thin_live : (state : State) → IsStateOfChanges file kept state → (key : Key) → live_table state key ≡ thinned place day (after_file empty_table file) key
  thin_live = search (rules, live_is_made, kept_apart)

-- if the op of an act is well formed for a key, so is the op of the act's thin form
thin_op : (place : List ℕ) (day : ℕ) (key : Key) (act : Act) → IsOpOf key (op_of act) → IsOpOf key (op_of (thin_act place day act))
thin_op = grind (arith, needed_is_body)

-- ---- the state made from the kept changes is valid

-- a list of one element has a property if the element has it
pub all_of_one : {A : Type 0} (P : A → Type 0) (x : A) → P x → All P (x ∷ [])
all_of_one P x here = All-from_recursion P (x ∷ []) (here, tt)

-- a ledger that has only one item has a floor, and the item's stamp isn't below it
pub floor_of : (item : LedgerItem) (b : Bool) → (item.indicator == 70) ≡ b
    → (floor : Option FileStamp) × IsFloor (item ∷ []) floor × IsKept floor item.stamp
floor_of item true h = (
  Some item.stamp,
  record {
    full = item;
    among = single-Contains item item refl;
    is_full = eqb-true item.indicator 70 h;
    stamped = refl;
    greatest = search (rules, at_most_itself, file_stamp_total);
  },
  at_most_itself file_stamp_total item.stamp,
)
floor_of item false h = search (rules, eq-eqb)

-- a ledger that has only one item is well formed if this item is well formed
ledger_of_one : (item : LedgerItem) → IsGoodItem item → IsLedger (item ∷ [])
ledger_of_one item good =
    let floor = floor_of item (item.indicator == 70) refl in
    record {
      each = all_of_one IsGoodItem item good;
      ascending = (tt, tt);
      floor = floor.0;
      is_floor = floor.1;
      kept = all_of_one (λ (i : LedgerItem). IsKept floor.0 i.stamp) item floor.2;
    }

-- if the horizon is 0, no entry has to lapse, whatever its op is
pub no_lapse : (op : Op) → HasNotToLapse 0 op
no_lapse = search rules

-- a kept change is well formed, and its record number is at least 2
pub kept_good : (place : List ℕ) (day : ℕ) (file : List (List ℕ)) → IsFile file → length file ≤ most_records → (kept : List Change)
    → IsThinning place day (changes file) kept → (change : Change) → Contains kept change
    → (IsGoodKey change.key × IsOpOf change.key (op_of change.act)) × ((2 ≤ change.number) × (change.number < 2 ^ 32 - 1))
kept_good place day file is_file few kept is change among =
    let was = was_change place day file kept is change among in
    let told = file_change file is_file few was.0 was.1 in
    subst (λ (c : Change). (IsGoodKey c.key × IsOpOf c.key (op_of c.act)) × ((2 ≤ c.number) × (c.number < 2 ^ 32 - 1))) was.2
    ((told.good.0, thin_op place day was.0.key was.0.act told.good.1), (told.low, told.high))

-- the state made from any of the kept changes
module _ (place : List ℕ) (day : ℕ) (file : List (List ℕ)) (is_file : IsFile file) (few : length file ≤ most_records) (kept : List Change)
    (is : IsThinning place day (changes file) kept) (some : List Change) (within : (change : Change) → Contains some change → Contains kept change)
    (state : State) (of : IsStateOfChanges file some state) where
  in_ledger : Contains (map (λ (item : LedgerItem). item.stamp) state.ledger) (file_stamp_of file)
  in_ledger = search (rules, single-Contains)

  -- the entry that a kept change leaves is well formed (`IsGoodEntry`)
  entry_good : (change : Change) → Contains kept change → IsGoodEntry state.ledger (entry_of_change file change)
  entry_good change among =
      let told = kept_good place day file is_file few kept is change among in
      record { key = told.0.0; stamp = record { in_ledger = in_ledger; low = told.1.0; high = told.1.1 }; op = told.0.1 }

  -- the state made from any of the kept changes is valid
  pub some_valid : IsValid state
  some_valid = record {
    horizon = subst IsDay (sym of.horizon) (omega arith);
    ledger = subst IsLedger (sym of.ledger) (ledger_of_one _ (item_good _ is_file));
    entries = (
      all_members _ _ (λ entry among.
          let told = (of.entries entry.0 entry.1).0 among in
          let found = Contains-map _ _ _ told.among in
          subst (IsGoodEntry state.ledger) found.2 (entry_good _ (within found.0 found.1))),
      of.ascending,
    );
    have_lapsed = all_members _ _ (λ entry among. subst (λ horizon. HasNotToLapse horizon entry.1.op) (sym of.horizon) (no_lapse _));
  }

-- the bodies of the summary of a file are well formed
pub summary_good : (file : List (List ℕ)) → IsFile file → length file ≤ most_records → (whole : State) → IsSummary (file ∷ []) 0 whole
    → HasGoodBodies (live_table whole)
summary_good file is_file few whole summary = good_bodies _
    (summary_is_valid (file ∷ []) _ whole (omega arith) (all_of_one IsFile file is_file) (all_of_one (λ f. length f ≤ most_records) file few) summary)

module _ (place : List ℕ) (day : ℕ) (file : List (List ℕ)) (is_file : IsFile file) (few : length file ≤ most_records) (kept : List Change)
    (is : IsThinning place day (changes file) kept) (state : State) (of : IsStateOfChanges file kept state) where
  -- the state made from the kept changes is valid
  pub thin_valid : IsValid state
  thin_valid = some_valid place day file is_file few kept is kept (λ change among. among) state of

  -- ---- the state made from the kept changes has the same docker as the summary of the file

  module _ (whole : State) (summary : IsSummary (file ∷ []) 0 whole) where
    whole_good : HasGoodBodies (live_table whole)
    whole_good = summary_good file is_file few whole summary

    same_live : thinned place day (live_table whole) ≡ live_table state
    same_live = λ i key. same key i
      where
        same : (key : Key) → thinned place day (live_table whole) key ≡ live_table state key
        same key = search (rules, live_of_summary, thin_live)

    -- the state made from the kept changes has the same docker as the summary of the file
    pub thin_state_docker : HaveOneDocker (live_table whole) (live_table state) place day
    thin_state_docker = subst (λ (table : Table). HaveOneDocker (live_table whole) table place day) same_live
        (thin_docker place day (live_table whole) whole_good)
