-- The example state is valid, and is the summary of the example file.
use Rattle.cif_laws.proofs.Common.{refl, lit≤, lit<, ◌≡◌, [], ◌∷◌, arith, ap, ◌∙◌, Contains, None, sym, subst, rules, ⊤, codes, All-from_recursion, Greater}
use Rattle.cif_laws.proofs.Common.{tied_itself, ScheduleKey, schedule_body, schedule_key, Key, schedule_named, Change, put, changes, LedgerItem, ledger_item_of}
use Rattle.cif_laws.proofs.Common.{Entry, put_with, entry_cmp, IsGoodItem, IsLedger, IsScheduleOf, IsGoodEntry, IsValid, entry_of, IsKeptFile, IsEntryOf}
use Rattle.cif_laws.proofs.Common.{IsSummary, IsGreatestEntryOf}
use Rattle.cif_laws.proofs.orders.Orders.{entry_total}
use Rattle.cif_laws.proofs.records.Builders.{f2_schedule, f2, f2_basic}
use Rattle.state_laws.proofs.examples.StateExamples.{f2_item, key_of_f2, f2_state, item_of_f2}
use Rattle.cif_laws.proofs.schedules.WorkedSchedule.{f2_is_schedule}
use Rattle.state_laws.proofs.joins.RaisedHorizon.{plain_summary}
use Rattle.cif_laws.proofs.lists.Membership.{Contains-single, single-Contains}

-- the ledger item of the example file is well formed
pub good_item : IsGoodItem f2_item
good_item = search (rules, lit≤, lit<, f2_item)

no_full : (item : LedgerItem) → Contains (f2_item ∷ []) item → item.indicator ≡ 70 → ⊥
no_full item among full = let same = ap (λ (i : LedgerItem). i.indicator) (Contains-single f2_item item among) ∙ full in omega arith

-- the ledger of the example state is well formed
pub good_ledger : IsLedger (f2_item ∷ [])
good_ledger = record {
  each = All-from_recursion IsGoodItem (f2_item ∷ []) (good_item, tt);
  ascending = (tt, tt);
  floor = None;
  is_floor = no_full;
  kept = All-from_recursion (λ item. ⊤) (f2_item ∷ []) (tt, tt);
}

abbrev f2_key : ScheduleKey
f2_key = record { uid = codes "C10001"; runs_from = 23537; indicator = 80 }

abbrev f2_entry : Entry
f2_entry = record { stamp = record { file = f2_item.stamp; number = 2 }; op = put_with (schedule_body f2_schedule) }

schedule_of_key : IsScheduleOf f2_key f2_schedule
schedule_of_key = record { schedule = f2_is_schedule; few = lit< tt; new = refl; key_is = key_of_f2 }

-- the entry of the example state is well formed
pub good_entry : IsGoodEntry (f2_item ∷ []) (schedule_key f2_key, f2_entry)
good_entry = search (rules, lit≤, single-Contains, f2_item, lit<, schedule_of_key)

-- the example state is valid
pub f2_state_valid : IsValid f2_state
f2_state_valid = search (rules, lit≤, good_ledger, f2_item, good_entry)

-- the ledger item of the example file is `f2_item`
item_is : ledger_item_of f2 ≡ f2_item
item_is = item_of_f2

abbrev f2_change : Change
f2_change = record { number = 2; key = schedule_named f2_basic; act = put (schedule_body f2_schedule) }

entry_is : entry_of f2 f2_change ≡ f2_entry
entry_is = λ i. record { stamp = record { file = (item_is i).stamp; number = 2 }; op = put_with (schedule_body f2_schedule) }

kept_f2 : IsKeptFile (f2 ∷ []) None f2
kept_f2 = record { among = single-Contains f2 f2 refl; kept = tt }

no_full_file : (item : LedgerItem) → Contains (ledger_item_of f2 ∷ []) item → item.indicator ≡ 70 → ⊥
no_full_file item among full = let same = ap (λ (i : LedgerItem). i.indicator) (Contains-single (ledger_item_of f2) item among) ∙ full in omega arith

f2_entry_of : IsEntryOf (f2 ∷ []) None (schedule_key f2_key) f2_entry
f2_entry_of = search (rules, f2, kept_f2, single-Contains, key_of_f2, entry_is)

-- `f2_entry` is the only entry that the changes of the example file make
only_entry : (key : Key) (entry : Entry) (made : IsEntryOf (f2 ∷ []) None key entry) → (schedule_key f2_key ≡ key) × (f2_entry ≡ entry)
only_entry key entry made =
    let file_is : f2 ≡ made.file = Contains-single _ _ made.kept.among in
    let among : Contains (changes f2) made.change = subst (λ file. Contains (changes file) made.change) (sym file_is) made.among in
    let change_is : f2_change ≡ made.change = Contains-single _ _ among in search (rules, key_of_f2, entry_is)

not_above : (other : Entry) → IsEntryOf (f2 ∷ []) None (schedule_key f2_key) other → ¬ (entry_cmp other f2_entry ≡ Greater)
not_above other made greater =
    let same = (only_entry (schedule_key f2_key) other made).1 in
    let self : entry_cmp f2_entry f2_entry ≡ Greater = subst (λ e. entry_cmp e f2_entry ≡ Greater) (sym same) greater in
    let tied = (tied_itself entry_total f2_entry) in
    cc

-- the example state is the summary of the example file
pub f2_summary : IsSummary (f2 ∷ []) 0 f2_state
f2_summary = (plain_summary _ _).0 (record {
  no_horizon = refl;
  floor = None;
  is_floor = no_full_file;
  ledger_ascends = (tt, tt);
  ledger = λ item. (
    λ among. (f2, kept_f2, item_is ∙ Contains-single _ _ among),
    λ made. single-Contains _ _ (sym item_is ∙ ap ledger_item_of (Contains-single _ _ made.1.among) ∙ made.2),
  );
  entries_ascend = (tt, tt);
  entries = λ key entry. (
    λ among.
        let same = Contains-single _ _ among in
        subst (λ (pair : Key × Entry). IsGreatestEntryOf (f2 ∷ []) None pair.0 pair.1) same (record { is = f2_entry_of; greatest = not_above }),
    λ greatest.
        let same = only_entry _ _ greatest.is in
        single-Contains _ _ (λ i. (same.0 i, same.1 i)),
  );
})
