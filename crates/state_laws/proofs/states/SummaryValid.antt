-- If each file of a set has at most `most_records` records, the summary of the set is a valid
-- state.
use Rattle.cif_laws.proofs.Common.{ℕ, ◌≤◌, List, map, length, All, subst, ap, sym, ◌∙◌, arith, ◌==◌, ◌||◌, All-contains, header, columns, column, IsDay, IsFile}
use Rattle.cif_laws.proofs.Common.{most_records, Key, LedgerItem, ledger_item_of, Entry, State, IsValid, IsGoodItem, IsGoodEntry, IsSummary, IsEntryOf}
use Rattle.cif_laws.proofs.lists.Membership.{map-Contains, Contains-map}
use Rattle.cif_laws.proofs.records.Columns.{good_fields, one_column, text_in}
use Rattle.cif_laws.proofs.records.GoodFields.{date_day_first_is_day, clock_minute, update_letter}
use Rattle.state_laws.proofs.joins.JoinValid.{reduced_is_valid}
use Rattle.state_laws.proofs.states.PlainTable.{entries_along}
use Rattle.state_laws.proofs.states.ReducedEntries.{IsReduced}
use Rattle.state_laws.proofs.states.SummaryReduced.{summary_reduced, entry_out}
use Rattle.cif_laws.proofs.files.FileChanges.{file_change}

-- ---- the ledger item of a CIF file is well formed

-- the ledger item of a CIF file is well formed
pub item_good : (file : List (List ℕ)) → IsFile file → IsGoodItem (ledger_item_of file)
item_good file is =
    subst (λ f. IsGoodItem (ledger_item_of f)) (sym is.whole)
    (let fields = good_fields header is.first is.header_kind is.header_fields in
    record {
      day = date_day_first_is_day (columns 23 28 is.first) fields.0;
      minute = clock_minute (columns 29 32 is.first) fields.1.0;
      reference = text_in is.first 33 39 is.header_record (omega arith) (omega arith);
      indicator = update_letter (column 47 is.first) (ap (λ b. (b == 70) || (b == 85)) (sym (one_column is.first 47 (omega arith))) ∙ fields.1.1.0);
      last_reference = text_in is.first 40 46 is.header_record (omega arith) (omega arith);
    })

-- ---- the summary of files with at most `most_records` records each is valid

-- if each file has at most `most_records` records and the horizon is a day number, the summary of
-- the files is a valid state
pub summary_is_valid : (files : List (List (List ℕ))) (horizon : ℕ) (state : State) → IsDay horizon → All IsFile files
    → All (λ file. length file ≤ most_records) files
    → IsSummary files horizon state → IsValid state
summary_is_valid files horizon state day each few summary =
    reduced_is_valid (map ledger_item_of files) (entries_along files) state reduced
    (subst IsDay (sym summary.horizon_is) day)
    (λ item among. let found = Contains-map ledger_item_of files item among in
    subst IsGoodItem found.2 (item_good found.0 (All-contains IsFile files found.0 each found.1)))
    (λ key entry among kept. entry_good key entry (entry_out files reduced.floor key entry among kept))
  where
    reduced : IsReduced (map ledger_item_of files) (entries_along files) state
    reduced = summary_reduced files horizon state summary

    entry_good : (key : Key) (entry : Entry) → IsEntryOf files reduced.floor key entry → IsGoodEntry state.ledger (key, entry)
    entry_good key entry made =
        let told = file_change made.file (All-contains IsFile files made.file each made.kept.among)
        (All-contains (λ file. length file ≤ most_records) files made.file few made.kept.among) made.change made.among in
        let there = (reduced.ledger (ledger_item_of made.file)).1
        (map-Contains ledger_item_of files made.file made.kept.among, made.kept.kept) in
        subst (λ k. IsGoodEntry state.ledger (k, entry)) made.key_is
        (subst (λ e. IsGoodEntry state.ledger (made.change.key, e)) made.entry_is (record {
          key = told.good.0;
          stamp = record {
            in_ledger = map-Contains (λ (item : LedgerItem). item.stamp) state.ledger (ledger_item_of made.file) there;
            low = told.low;
            high = told.high;
          };
          op = told.good.1;
        }))
