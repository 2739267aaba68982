-- A summary is the result of reducing its files' ledger items and the entries that the files'
-- changes make.
use Rattle.cif_laws.proofs.Common.{◌≡◌, ℕ, List, map, Contains, subst, inl, ◌⊎◌, ap, sym, Some, None, rules, Option, ◌↔◌, Key, changes, IsAtMost, FileStamp}
use Rattle.cif_laws.proofs.Common.{LedgerItem, ledger_item_of, IsKept, Entry, entry_cmp, lapse_entry, State, IsGreatestAmong, IsSummary, IsEntryOf}
use Rattle.cif_laws.proofs.Common.{IsGreatestEntryOf, entry_of, IsKeptFile}
use Rattle.cif_laws.proofs.orders.Orders.{file_stamp_total}
use Rattle.cif_laws.proofs.orders.AtMost.{at_most_trans, at_most_below, at_most_or}
use Rattle.cif_laws.proofs.lists.Membership.{Contains-flat_map, flat_map-Contains, Contains-map, map-Contains}
use Rattle.state_laws.proofs.states.PlainTable.{Keyed, entry_of_change, entries_of, entries_along}
use Rattle.state_laws.proofs.states.ReducedEntries.{IsReduced, KeptOf}

-- a file, as the list of its records
abbrev pub File : Type 0
File = List (List ℕ)

-- if one entry is below the floor and another entry isn't, the first entry is at most the second
-- entry
pub below_kept : (floor : Option FileStamp) (low high : Entry) → IsKept floor high.stamp.file → IsKept floor low.stamp.file ⊎ IsAtMost entry_cmp low high
below_kept None low high kept = inl tt
below_kept (Some floor) low high kept = search (rules, at_most_or, file_stamp_total, at_most_trans, at_most_below)

module _ (files : List File) (floor : Option FileStamp) (key : Key) where
  -- if a file isn't below the floor, each entry that the file's changes make is among the entries
  -- of all files, and the entry isn't below the floor either
  pub entry_in : (entry : Entry) → IsEntryOf files floor key entry → Contains (entries_along files) (key, entry) × IsKept floor entry.stamp.file
  entry_in entry made =
      let pair : entry_of_change made.file made.change ≡ (key, entry) = (λ i. (made.key_is i, made.entry_is i)) in (
        flat_map-Contains _ _ _ _ made.kept.among
            (subst (Contains (entries_of made.file)) pair (map-Contains _ _ _ made.among)),
        subst (λ (e : Entry). IsKept floor e.stamp.file) made.entry_is made.kept.kept,
      )

  -- an entry that isn't below the floor comes from a change of a file that isn't below the floor
  pub entry_out : (entry : Entry) → Contains (entries_along files) (key, entry) → IsKept floor entry.stamp.file → IsEntryOf files floor key entry
  entry_out entry among kept =
      let found = Contains-flat_map entries_of files (key, entry) among in
      let change = Contains-map (entry_of_change found.0) (changes found.0) (key, entry) found.2 in
      let is : entry_of found.0 change.0 ≡ entry = ap (λ (pair : Keyed). pair.1) change.2 in
      search rules

  -- if an entry is a key's greatest entry from the files that aren't below the floor, it is the
  -- key's greatest entry from all files. It isn't below the floor
  pub greatest_forth : (entry : Entry) → IsGreatestEntryOf files floor key entry → IsGreatestAmong (entries_along files) key entry
      × IsKept floor entry.stamp.file
  greatest_forth entry best =
      let there = entry_in entry best.is in
      search (rules, below_kept, entry_out)

  -- if a key's greatest entry from all files isn't below the floor, it is the key's greatest entry
  -- from the files that aren't below the floor
  pub greatest_back : (entry : Entry) → IsGreatestAmong (entries_along files) key entry → IsKept floor entry.stamp.file
      → IsGreatestEntryOf files floor key entry
  greatest_back = search (rules, entry_out, entry_in)

  -- an entry is a key's greatest entry from the files that aren't below the floor, lapsed with the
  -- horizon, if and only if a reduction keeps it
  pub kept_iff : (horizon : ℕ) (entry : Entry) → ((greatest : Entry) × IsGreatestEntryOf files floor key greatest × (lapse_entry horizon greatest ≡ entry))
      ↔ KeptOf (entries_along files) floor horizon key entry
  kept_iff horizon entry = (
    λ told. let best = greatest_forth told.0 told.1 in (told.0, best.0, best.1, told.2),
    λ told. (told.0, greatest_back told.0 told.1 told.2, told.3),
  )

-- an item is the item of a file that isn't below the floor if and only if it is among the items of
-- all files and isn't below the floor
item_iff : (files : List File) (floor : Option FileStamp) (item : LedgerItem) → ((file : File) × IsKeptFile files floor file × (ledger_item_of file ≡ item))
    ↔ (Contains (map ledger_item_of files) item × IsKept floor item.stamp)
item_iff files floor item = (
  λ found. (
    subst (Contains (map ledger_item_of files)) found.2 (map-Contains _ _ _ found.1.among),
    subst (λ (i : LedgerItem). IsKept floor i.stamp) found.2 found.1.kept,
  ),
  λ told.
      let found = Contains-map _ _ _ told.0 in
      (found.0, record { among = found.1; kept = subst (λ (i : LedgerItem). IsKept floor i.stamp) (sym found.2) told.1 }, found.2),
)

-- a summary satisfies `IsReduced` for the ledger items and the entries of its files
pub summary_reduced : (files : List File) (horizon : ℕ) (state : State) → IsSummary files horizon state → IsReduced (map ledger_item_of files)
    (entries_along files) state
summary_reduced files horizon state summary = record {
  floor = summary.floor;
  is_floor = summary.is_floor;
  ledger_ascends = summary.ledger_ascends;
  ledger = λ item. (
    λ among. (item_iff files _ item).0 ((summary.ledger item).0 among),
    λ told. (summary.ledger item).1 ((item_iff files _ item).1 told),
  );
  entries_ascend = summary.entries_ascend;
  of_keys = λ key entry. (
    λ among. subst (λ h. KeptOf (entries_along files) summary.floor h key entry) (sym summary.horizon_is)
        ((kept_iff files summary.floor key horizon entry).0 ((summary.entries key entry).0 among)),
    λ told. (summary.entries key entry).1 ((kept_iff files summary.floor key horizon entry).1
        (subst (λ h. KeptOf (entries_along files) summary.floor h key entry) summary.horizon_is told)),
  );
}

-- a state that satisfies `IsReduced` for the ledger items and the entries of files is the summary
-- of these files
pub reduced_summary : (files : List File) (horizon : ℕ) (state : State) → state.horizon ≡ horizon → IsReduced (map ledger_item_of files)
    (entries_along files) state → IsSummary files horizon state
reduced_summary files horizon state horizon_is is = subst (λ h. IsSummary files h state) horizon_is (record {
  horizon_is = λ i. state.horizon;
  floor = is.floor;
  is_floor = is.is_floor;
  ledger_ascends = is.ledger_ascends;
  ledger = λ item. (
    λ among. (item_iff files _ item).1 ((is.ledger item).0 among),
    λ found. (is.ledger item).1 ((item_iff files _ item).0 found),
  );
  entries_ascend = is.entries_ascend;
  entries = λ key entry. (
    λ among. (kept_iff files is.floor key state.horizon entry).1 ((is.of_keys key entry).0 among),
    λ told. (is.of_keys key entry).1 ((kept_iff files is.floor key state.horizon entry).0 told),
  );
})
