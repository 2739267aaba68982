-- Suppose that the files of a set have distinct moments, and that the bodies which ended before a
-- horizon are dropped from their plain table. The result is the live table of the files' summary
-- under this horizon.
use Rattle.cif_laws.proofs.Common.{◌≡◌, ℕ, List, Contains, inl, inr, ◌⊎◌, ap, sym, ◌∙◌, rules, fold, option_and_then, Key, IsBelow, IsAtMost, stamp_cmp, Entry}
use Rattle.cif_laws.proofs.Common.{entry_cmp, body_of, Table, empty_table, from_last_full, IsPlainTable, lapse_entry, lapse_table, State, live_table, IsSummary}
use Rattle.cif_laws.proofs.Common.{IsGreatestEntryOf}
use Rattle.docker_model.specs.state.Lapse.{unlapsed}
use Rattle.cif_laws.proofs.orders.Orders.{entry_total}
use Rattle.state_laws.proofs.states.PlainTable.{Keyed, Found, NotFound, find_in, one_per_key, entries_along, step, NoneThere, LastThere}
use Rattle.state_laws.proofs.states.PlainTable.{last_there, after_files_is, entries_ascend, suffix_ascends, in_entries, out_entries}
use Rattle.state_laws.proofs.states.TableLapsed.{body_in, body_lapses}

module _ (files : List (List (List ℕ))) (horizon : ℕ) (state : State) (table : Table) (summary : IsSummary files horizon state)
    (plain : IsPlainTable files table) (key : Key) where
  entries : List Keyed
  entries = entries_along (from_last_full plain.ordered)

  at_least : (entry other : Entry) → (other ≡ entry) ⊎ IsBelow stamp_cmp other.stamp entry.stamp → IsAtMost entry_cmp other entry
  at_least = search (rules, entry_total)

  -- at each key, the live table of the summary equals the lapsed plain table
  pub live_is_plain : live_table state key ≡ lapse_table horizon table key
  unfolding entries
  live_is_plain =
      by (last_there entries empty_table key (entries_ascend (from_last_full plain.ordered) (suffix_ascends plain.ordered plain.order.ascending)))
      (find_in state.entries key)
    where
      table_is : table key ≡ fold step empty_table entries key
      table_is = plain.is key ∙ (λ i. after_files_is empty_table (from_last_full plain.ordered) i key)

      made : (entry : Entry) → Contains state.entries (key, entry) → (greatest : Entry) × Contains entries (key, greatest)
      made entry among =
          let told = (summary.entries key entry).0 among in
          (told.0, in_entries files plain.ordered plain.order summary.floor summary.is_floor key told.0 told.1.is)

      by : NoneThere entries empty_table key ⊎ LastThere entries empty_table key → Found state.entries key ⊎ NotFound state.entries key
          → live_table state key ≡ lapse_table horizon table key
      by (inl none) (inl found) = let there = made found.0.1 found.2 in absurd (none.0 there.0 there.1)
      by (inl none) (inr gone) = ap body_in gone.0 ∙ sym (ap (option_and_then (unlapsed horizon)) (table_is ∙ none.1))
      by (inr last) found =
          let greatest : IsGreatestEntryOf files summary.floor key last.0 = record {
            is = out_entries files plain.ordered plain.order summary.floor summary.is_floor key last.0 last.1;
            greatest =
                λ other is. at_least last.0 other (last.3 other (in_entries files plain.ordered plain.order summary.floor summary.is_floor key other is));
          } in
          there ((summary.entries key (lapse_entry horizon last.0)).1 (last.0, greatest, λ i. lapse_entry horizon last.0)) found
        where
          there : Contains state.entries (key, lapse_entry horizon last.0) → Found state.entries key ⊎ NotFound state.entries key
              → live_table state key ≡ lapse_table horizon table key
          there among (inl found) =
              let same = one_per_key state.entries summary.entries_ascend key found.0.1 (lapse_entry horizon last.0) found.2 among in
              ap body_in found.1 ∙ (λ i. body_of (same i).op) ∙ body_lapses horizon last.0.op ∙ ap (option_and_then (unlapsed horizon))
              (sym last.2 ∙ sym table_is)
          there among (inr gone) = absurd (gone.1 (lapse_entry horizon last.0) among)
