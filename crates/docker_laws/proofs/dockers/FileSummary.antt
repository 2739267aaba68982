-- The state that is computed from the changes of one file, entry by entry, is the summary of the
-- file. The join of an empty state with a valid state is the valid state.
use Rattle.cif_laws.proofs.Common.{◌≡◌, ℕ, List, [], ◌∷◌, length, append-nil, refl, ap, sym, ◌∙◌, subst, inl, rules, common_steps, inr, ◌⊎◌, Contains, ◌≤◌}
use Rattle.cif_laws.proofs.Common.{arith, Option, ◌↔◌, ◌==◌, Less, Equal, Greater, ordering_reverse, tied_itself, AllByRecursion, max-eq_right, IsFile}
use Rattle.cif_laws.proofs.Common.{most_records, Key, changes, IsAtMost, FileStamp, LedgerItem, ledger_item_of, file_stamp_of, IsFloor, IsKept, Entry, key_cmp}
use Rattle.cif_laws.proofs.Common.{entry_cmp, lapse_entry, State, AreAscending, IsGreatestAmong, IsGoodEntry, IsValid, IsJoin, IsSummary}
use Rattle.docker_laws.specs.FileSummary.{placed, with_earlier, latest_entries, summary_of}
use Rattle.cif_laws.proofs.orders.Orders.{key_total, exact_key, entry_total}
use Rattle.cif_laws.proofs.orders.AtMost.{at_most_itself, at_most_below}
use Rattle.cif_laws.proofs.lists.Membership.{Contains-cons, cons-Contains, cons-Contains-first, nil-Contains, Contains-single}
use Rattle.cif_laws.proofs.lists.Membership.{Contains-map, below_by_recursion, each_member, member_of}
use Rattle.cif_laws.proofs.lists.Later.{AllLater, later_map_weaker}
use Rattle.cif_laws.proofs.files.ChangeOrder.{Apart, changes_apart}
use Rattle.state_laws.proofs.states.PlainTable.{Keyed, Ascends, one_per_key, entry_of_change, entries_of, within_file}
use Rattle.state_laws.proofs.states.GreatestEntry.{NoEntry, GreatestEntry, greatest_in}
use Rattle.state_laws.proofs.states.ReducedEntries.{IsReduced}
use Rattle.state_laws.proofs.states.SummaryReduced.{reduced_summary}
use Rattle.state_laws.proofs.states.SummaryValid.{summary_is_valid}
use Rattle.state_laws.proofs.states.Lapse.{entry_stays}
use Rattle.docker_laws.proofs.dockers.ThinState.{no_lapse, floor_of, all_of_one}

-- ---- two keys can't each be below the other

not_both : (a b : Key) → key_cmp a b ≡ Less → ¬ (key_cmp b a ≡ Less)
not_both = search (rules, key_total)

not_itself : (a : Key) → ¬ (key_cmp a a ≡ Less)
not_itself a less = let tied = tied_itself key_total a in cc

-- ---- `with_earlier` preserves the key order and all entries of a list

-- after `with_earlier` inserts an entry, each entry of the new list either was in the list before
-- or is the inserted entry. In the second case, no entry in the list had the inserted entry's key
-- before
member_forth : (entry : Keyed) (entries : List Keyed) → AreAscending entries → (z : Keyed) → Contains (with_earlier entry entries) z
    → Contains entries z ⊎ ((entry ≡ z) × NoEntry entries entry.0)
member_forth entry [] up z among = inr (Contains-single entry _ among, λ other inside. nil-Contains (entry.0, other) inside)
member_forth entry (first ∷ entries) up z among = (elim (key_cmp entry.0 first.0) as (λ o. key_cmp entry.0 first.0 ≡ o
    → Contains (placed o entry first entries (with_earlier entry entries)) z
    → Contains (first ∷ entries) z ⊎ ((entry ≡ z) × NoEntry (first ∷ entries) entry.0)) [
      | Less ↦ λ h inside. elim (Contains-cons _ (first ∷ entries) _ inside) [
        | inl same ↦ inr (
          same,
          λ other inside. elim (Contains-cons first _ (entry.0, other) inside) [
            | inl same ↦ not_itself entry.0 (subst (λ (k : Key). key_cmp entry.0 k ≡ Less) (ap (λ (pair : Keyed). pair.0) same) h)
            | inr inside ↦ not_both _ first.0 h (below_by_recursion _ entries _ up.0 inside)
          ],
        )
        | inr later ↦ inl later
      ]
      | Equal ↦ λ h inside. inl inside
      | Greater ↦ λ h inside. elim (Contains-cons first _ z inside) [
        | inl same ↦ inl (subst (Contains (first ∷ entries)) same (cons-Contains-first _ entries))
        | inr later ↦ elim (member_forth entry entries up.1 z later) [
          | inl inside ↦ inl (cons-Contains _ entries _ inside)
          | inr new ↦ inr (
            new.0,
            λ other inside. elim (Contains-cons first _ (entry.0, other) inside) [
              | inl same ↦
                  let self : key_cmp entry.0 entry.0 ≡ Greater = subst (λ (k : Key). key_cmp entry.0 k ≡ Greater) (ap (λ (pair : Keyed). pair.0) same) h in
                  let tied = tied_itself key_total entry.0 in
                  cc
              | inr inside ↦ new.1 other inside
            ],
          )
        ]
      ]
    ]) refl among

-- `with_earlier` preserves each entry of the list
member_still : (entry : Keyed) (entries : List Keyed) (z : Keyed) → Contains entries z → Contains (with_earlier entry entries) z
member_still entry [] z among = absurd (nil-Contains z among)
member_still entry (first ∷ entries) z among = elim (key_cmp entry.0 first.0) as (λ o. Contains (placed o entry first entries (with_earlier entry entries)) z) [
  | Less ↦ cons-Contains entry (first ∷ entries) z among
  | Equal ↦ among
  | Greater ↦ elim (Contains-cons first entries z among) [
    | inl same ↦ subst (Contains (first ∷ with_earlier entry entries)) same (cons-Contains-first first (with_earlier entry entries))
    | inr inside ↦ cons-Contains first (with_earlier entry entries) z (member_still entry entries z inside)
  ]
]

-- `with_earlier` inserts the entry if no entry in the list has the same key
member_new : (entry : Keyed) (entries : List Keyed) → NoEntry entries entry.0 → Contains (with_earlier entry entries) entry
member_new entry [] none = cons-Contains-first entry []
member_new entry (first ∷ entries) none =
    (elim (key_cmp entry.0 first.0) as (λ o. key_cmp entry.0 first.0 ≡ o → Contains (with_earlier entry entries) entry → Contains
    (placed o entry first entries (with_earlier entry entries)) entry) [
      | Less ↦ λ h rest. cons-Contains-first entry (first ∷ entries)
      | Equal ↦ λ h rest. let same : entry.0 ≡ first.0 = exact_key entry.0 first.0 h in
          absurd (none first.1 (subst (Contains (first ∷ entries)) (λ i. (sym same i, first.1)) (cons-Contains-first first entries)))
      | Greater ↦ λ h rest. cons-Contains first (with_earlier entry entries) entry rest
    ]) refl (member_new entry entries (λ other inside. none other (cons-Contains first entries (entry.0, other) inside)))

-- `with_earlier` preserves the key order of the list
still_ascends : (entry : Keyed) (entries : List Keyed) → AreAscending entries → AreAscending (with_earlier entry entries)
still_ascends entry [] up = (tt, tt)
still_ascends entry (first ∷ entries) up = (elim (key_cmp entry.0 first.0) as (λ o. key_cmp entry.0 first.0 ≡ o
    → AreAscending (placed o entry first entries (with_earlier entry entries))) [
      | Less ↦ λ h. (
        each_member _ (first ∷ entries) (λ z inside. elim (Contains-cons _ entries _ inside) [
          | inl same ↦ subst (λ (later : Keyed). key_cmp entry.0 later.0 ≡ Less) same h
          | inr inside ↦ key_total.trans entry.0 first.0 z.0 h (below_by_recursion _ entries _ up.0 inside)
        ]),
        up,
      )
      | Equal ↦ λ h. up
      | Greater ↦ λ h. (
        each_member (λ (later : Keyed). key_cmp first.0 later.0 ≡ Less) _
            (λ z inside. elim (member_forth entry _ up.1 z inside) [
              | inl inside ↦ below_by_recursion (λ (later : Keyed). key_cmp first.0 later.0 ≡ Less) _ z up.0 inside
              | inr new ↦ subst (λ (later : Keyed). key_cmp first.0 later.0 ≡ Less) new.0 (key_total.antisymm first.0 entry.0 ∙ ap ordering_reverse h)
            ]),
        still_ascends entry entries up.1,
      )
    ]) refl

-- ---- the last entry of each key is the greatest

latest_ascend : (entries : List Keyed) → AreAscending (latest_entries entries)
latest_ascend [] = tt
latest_ascend (entry ∷ entries) = still_ascends entry (latest_entries entries) (latest_ascend entries)

-- if the stamps increase along the list, an entry is less than each later entry with the same key
not_above : (entry : Keyed) (entries : List Keyed) (key : Key) (last : Entry) → AllByRecursion (Ascends entry) entries → Contains entries (key, last)
    → (other : Entry) → entry ≡ (key, other) → entry_cmp other last ≡ Less
not_above = grind (common_steps, arith, below_by_recursion)

-- if each later entry with the same key has a greater stamp, `latest_entries` keeps the greatest
-- entry for each key
latest_is : (entries : List Keyed) → AllLater Ascends entries → (key : Key) (entry : Entry)
    → Contains (latest_entries entries) (key, entry) ↔ IsGreatestAmong entries key entry
latest_is [] up key entry = (λ among. absurd (nil-Contains (key, entry) among), λ is. absurd (nil-Contains (key, entry) is.among))
latest_is (first ∷ entries) up key entry = (forth (latest_is entries up.1 key), back (latest_is entries up.1 key))
  where
    Latest : Type 0
    Latest = (other : Entry) → Contains (latest_entries entries) (key, other) ↔ IsGreatestAmong entries key other

    as_later : IsGreatestAmong entries key entry → IsGreatestAmong (first ∷ entries) key entry
    as_later is = record {
      among = cons-Contains first entries (key, entry) is.among;
      greatest = λ other among. elim (Contains-cons first entries (key, other) among) [
        | inl same ↦ at_most_below entry_cmp other entry (not_above first entries key entry up.0 is.among other same)
        | inr inside ↦ is.greatest other inside
      ];
    }

    as_first : first ≡ (key, entry) → NoEntry entries key → IsGreatestAmong (first ∷ entries) key entry
    as_first same none = record {
      among = subst (Contains (first ∷ entries)) same (cons-Contains-first first entries);
      greatest = λ other among. elim (Contains-cons first entries (key, other) among) [
        | inl too ↦ subst (λ (e : Entry). IsAtMost entry_cmp e entry) (ap (λ (pair : Keyed). pair.1) (sym same ∙ too)) (at_most_itself entry_total entry)
        | inr inside ↦ absurd (none other inside)
      ];
    }

    of_key : first ≡ (key, entry) → NoEntry (latest_entries entries) first.0 → NoEntry (latest_entries entries) key
    of_key same none = subst (NoEntry (latest_entries entries)) (ap (λ (pair : Keyed). pair.0) same) none

    forth : Latest → Contains (with_earlier first (latest_entries entries)) (key, entry) → IsGreatestAmong (first ∷ entries) key entry
    forth later among = elim (member_forth first (latest_entries entries) (latest_ascend entries) (key, entry) among) [
      | inl inside ↦ as_later ((later entry).0 inside)
      | inr new ↦ as_first new.0 (elim (greatest_in entries key) [
        | inl never ↦ never
        | inr best ↦ absurd ((of_key new.0 new.1) best.0 ((later best.0).1 (record { among = best.1; greatest = best.2 })))
      ])
    ]

    back : Latest → IsGreatestAmong (first ∷ entries) key entry → Contains (with_earlier first (latest_entries entries)) (key, entry)
    back later is = elim (Contains-cons first entries (key, entry) is.among) [
      | inl same ↦ alone same (greatest_in entries key)
      | inr inside ↦
          member_still first (latest_entries entries) (key, entry)
          ((later entry).1 (record { among = inside; greatest = λ other among. is.greatest other (cons-Contains first entries (key, other) among) }))
    ]
      where
        alone : first ≡ (key, entry) → NoEntry entries key ⊎ GreatestEntry entries key → Contains (with_earlier first (latest_entries entries)) (key, entry)
        alone same (inl none) =
            subst (Contains (with_earlier first (latest_entries entries))) same
            (member_new first (latest_entries entries) (λ other inside. none_here other (search rules)))
          where
            none_here : (other : Entry) → ¬ Contains (latest_entries entries) (key, other)
            none_here other inside = none other ((later other).0 inside).among
        alone same (inr best) =
            let less = not_above first entries key best.0 up.0 best.1 entry same in
            let greater : entry_cmp best.0 entry ≡ Greater = entry_total.antisymm best.0 entry ∙ ap ordering_reverse less in
            absurd (is.greatest best.0 (cons-Contains first entries (key, best.0) best.1) greater)

-- ---- `summary_of` computes the summary of the file

module _ (file : List (List ℕ)) where
  abbrev at : (floor : Option FileStamp) × IsFloor (ledger_item_of file ∷ []) floor × IsKept floor (file_stamp_of file)
  at = floor_of (ledger_item_of file) ((ledger_item_of file).indicator == 70) refl

  ascends : AllLater Ascends (entries_of file)
  ascends = later_map_weaker (entry_of_change file) Apart Ascends (within_file file) (changes file) (changes_apart 1 file)

  stays : (entry : Entry) → lapse_entry 0 entry ≡ entry
  stays entry = entry_stays 0 entry (no_lapse entry.op)

  kept : (key : Key) (entry : Entry) → Contains (entries_of file) (key, entry) → IsKept at.0 entry.stamp.file
  kept key entry among =
      let found = Contains-map (entry_of_change file) (changes file) (key, entry) among in
      subst (λ (pair : Keyed). IsKept at.0 pair.1.stamp.file) found.2 at.2

  reduced : IsReduced (ledger_item_of file ∷ []) (entries_of file) (summary_of file)
  reduced = record {
    floor = at.0;
    is_floor = at.1;
    ledger_ascends = (tt, tt);
    ledger = search rules;
    entries_ascend = latest_ascend (entries_of file);
    of_keys = λ key entry. (
      λ among.
          let greatest = (latest_is _ ascends key _).0 among in
          (entry, greatest, kept key _ greatest.among, stays entry),
      λ told. subst (λ (e : Entry). Contains (latest_entries (entries_of file)) (key, e)) (sym (stays _) ∙ told.3)
          ((latest_is (entries_of file) ascends _ told.0).1 told.1),
    );
  }

  -- `summary_of` computes the summary of the file
  pub summary_is : IsSummary (file ∷ []) 0 (summary_of file)
  summary_is = search (rules, reduced_summary, append-nil, entries_of, reduced)

  -- the summary of a file is valid
  pub summary_valid : IsFile file → length file ≤ most_records → IsValid (summary_of file)
  summary_valid is_file few =
      summary_is_valid (file ∷ []) 0 (summary_of file) (omega arith) (all_of_one IsFile file is_file) (all_of_one (λ f. length f ≤ most_records) file few)
      summary_is

-- the join of an empty state with a valid state is the valid state
pub join_of_nothing : (state : State) → IsValid state → IsJoin (record { horizon = 0; ledger = []; entries = [] }) state state
join_of_nothing state valid = record {
  horizon = sym (max-eq_right {n = 0} {m = state.horizon} (omega arith));
  floor = valid.ledger.floor;
  is_floor = valid.ledger.is_floor;
  ledger_ascends = valid.ledger.ascending;
  ledger = search (rules, member_of, kept);
  entries_ascend = valid.entries.1;
  entries = λ key entry. (
    λ among. (
      entry,
      record {
        among = among;
        greatest = λ other inside.
            subst (λ (e : Entry). IsAtMost entry_cmp other e) (one_per_key state.entries valid.entries.1 key other entry inside among)
            (at_most_itself entry_total other);
      },
      kept_there key entry among,
      stays_there key entry among,
    ),
    λ told. subst (λ (e : Entry). Contains state.entries (key, e)) (sym (stays_there key told.0 told.1.among) ∙ told.3) told.1.among,
  );
}
  where
    stays_there : (key : Key) (entry : Entry) → Contains state.entries (key, entry) → lapse_entry state.horizon entry ≡ entry
    stays_there key entry among = search (rules, entry_stays, member_of)

    kept_there : (key : Key) (entry : Entry) → Contains state.entries (key, entry) → IsKept valid.ledger.floor entry.stamp.file
    kept_there key entry among =
        let good = member_of (IsGoodEntry state.ledger) state.entries (key, entry) valid.entries.0 among in
        let item = Contains-map (λ (i : LedgerItem). i.stamp) state.ledger entry.stamp.file good.stamp.in_ledger in
        search (rules, member_of, kept)
