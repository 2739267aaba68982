-- A set of files has at most one summary for each horizon. The join of two summaries is the summary
-- of both sets of files together, with the greater of their two horizons. Setting a horizon on a
-- summary gives the summary with the greater of the two horizons.
use Rattle.cif_laws.proofs.Common.{◌≡◌, ℕ, ◌≤◌, List, ◌++◌, map, Contains, subst, ap, sym, ◌∙◌, rules, max, flat_map, le-max_left, max-eq_left, map-append}
use Rattle.cif_laws.proofs.Common.{flat_map-append, ledger_item_of, Entry, lapse_entry, State, IsJoin, lapse_state, raise_horizon, IsSummary}
use Rattle.cif_laws.proofs.lists.Membership.{Contains-flat_map, flat_map-Contains, Contains-map, map-Contains, SameMembers, same_members_turned}
use Rattle.state_laws.proofs.states.PlainTable.{entries_along, entries_of}
use Rattle.state_laws.proofs.states.Lapse.{entry_twice}
use Rattle.state_laws.proofs.states.LapsedGreatest.{lapsed_from, lapsed_to}
use Rattle.state_laws.proofs.states.KeptEntries.{lapse_ascends}
use Rattle.state_laws.proofs.states.ReducedEntries.{reduced_twice}
use Rattle.state_laws.proofs.states.ReducedMembers.{reduced_along, reduced_unique}
use Rattle.state_laws.proofs.joins.JoinLaws.{join_reduced, horizon_left, horizon_right}
use Rattle.state_laws.proofs.states.SummaryReduced.{File, summary_reduced, reduced_summary}

-- ---- the items and entries of two sets of files are the items and entries of their union

members_of_map : {A B : Type 0} (f : A → B) (xs ys : List A) → ((x : A) → Contains xs x → Contains ys x) → (y : B) → Contains (map f xs) y
    → Contains (map f ys) y
members_of_map f xs ys to y among =
    let found = Contains-map f xs y among in
    subst (Contains (map f ys)) found.2 (map-Contains f ys found.0 (to found.0 found.1))

members_of_flat_map : {A B : Type 0} (f : A → List B) (xs ys : List A) → ((x : A) → Contains xs x → Contains ys x) → (y : B) → Contains (flat_map f xs) y
    → Contains (flat_map f ys) y
members_of_flat_map f xs ys to y among =
    let found = Contains-flat_map f xs y among in
    flat_map-Contains f ys found.0 y (to found.0 found.1) found.2

same_items : (files others : List File) → SameMembers files others → SameMembers (map ledger_item_of files) (map ledger_item_of others)
same_items files others same item = (members_of_map _ _ _ (λ file. (same file).0) _, members_of_map _ _ _ (λ file. (same file).1) _)

same_entries : (files others : List File) → SameMembers files others → SameMembers (entries_along files) (entries_along others)
same_entries files others same entry = (members_of_flat_map _ _ _ (λ file. (same file).0) _, members_of_flat_map _ _ _ (λ file. (same file).1) _)

-- the ledger items of two sets of files, taken together, are the ledger items of the union of the
-- sets
items_of_union : (files others : List File) → SameMembers (map ledger_item_of others ++ map ledger_item_of files) (map ledger_item_of (files ++ others))
items_of_union files others = subst (SameMembers (map ledger_item_of others ++ map ledger_item_of files)) (sym (map-append ledger_item_of files others))
    (same_members_turned (map ledger_item_of others) (map ledger_item_of files))

entries_of_union : (files others : List File) → SameMembers (entries_along others ++ entries_along files) (entries_along (files ++ others))
entries_of_union files others = subst (SameMembers (entries_along others ++ entries_along files)) (sym (flat_map-append entries_of files others))
    (same_members_turned (entries_along others) (entries_along files))

-- ---- the laws of summaries

-- for each horizon, a set of files has at most one summary, whatever the order in which the files
-- are listed
pub summary_unique : (files others : List File) → SameMembers files others → (horizon : ℕ) (s t : State) → IsSummary files horizon s
    → IsSummary others horizon t → s ≡ t
summary_unique files others same horizon s t is_s is_t = reduced_unique _ _ _ _ (is_s.horizon_is ∙ sym is_t.horizon_is)
    (reduced_along _ _ _ _ (same_items _ _ same) (same_entries _ _ same) _ (summary_reduced _ _ _ is_s)) (summary_reduced _ _ _ is_t)

-- the join of two summaries is the summary of both sets of files together, with the greater of the
-- two horizons
pub join_is_summary : (files others : List File) (g h : ℕ) (one two joined : State) → IsSummary files g one → IsSummary others h two → IsJoin one two joined
    → IsSummary (files ++ others) (max g h) joined
join_is_summary files others g h one two joined of_files of_others is =
    let first = reduced_twice _ two.ledger _ two.entries _ joined (summary_reduced _ g _ of_files) (join_reduced one _ joined is) (horizon_left _ two _ is) in
    let turn = reduced_along (map ledger_item_of files ++ two.ledger) _ (entries_along files ++ two.entries) _
    (same_members_turned (map ledger_item_of files) _) (same_members_turned (entries_along files) _) joined first in
    let second = reduced_twice _ (map ledger_item_of files) _ (entries_along files) _ joined
    (summary_reduced _ h _ of_others) turn (horizon_right one _ joined is) in
    search (rules, reduced_summary, reduced_along, items_of_union, entries_of_union, is.horizon, of_files.horizon_is, of_others.horizon_is)

-- lapsing a summary with a horizon that is at least the summary's horizon gives the summary with
-- the new horizon
pub lapsed_summary : (files : List File) (low high : ℕ) (state : State) → low ≤ high → IsSummary files low state → IsSummary files high (lapse_state high state)
lapsed_summary files low high state rises is = record {
  horizon_is = λ i. high;
  floor = is.floor;
  is_floor = is.is_floor;
  ledger_ascends = is.ledger_ascends;
  ledger = is.ledger;
  entries_ascend = lapse_ascends _ state.entries is.entries_ascend;
  entries = λ key entry. (
    λ among.
        let before = lapsed_from _ state.entries _ entry among in
        let told = (is.entries key before.0).0 before.1 in
        (told.0, told.1, sym (twofold told.0) ∙ ap (lapse_entry high) told.2 ∙ before.2),
    λ told.
        let there = (is.entries key (lapse_entry low told.0)).1 (told.0, told.1, λ i. lapse_entry low told.0) in
        subst (λ e. Contains (lapse_state high state).entries (key, e)) (twofold told.0 ∙ told.2)
        (lapsed_to _ state.entries _ (lapse_entry low told.0) there),
  );
}
  where
    twofold : (entry : Entry) → lapse_entry high (lapse_entry low entry) ≡ lapse_entry high entry
    twofold entry = entry_twice _ low _ ∙ ap (λ h. lapse_entry h entry) (max-eq_left rises)

-- setting a horizon on a summary gives the summary with the greater of the two horizons
pub raised_summary : (files : List File) (g h : ℕ) (state : State) → IsSummary files g state → IsSummary files (max g h) (raise_horizon h state)
raised_summary = search (rules, lapsed_summary, le-max_left)
