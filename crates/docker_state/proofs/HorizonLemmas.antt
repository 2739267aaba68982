-- Lemmas on setting a horizon on a state. If the new horizon is after the old horizon, each entry whose body ended before the new horizon lapses. Otherwise
-- nothing changes.
use Rattle.cif_laws.proofs.Common.{◌≡◌, ℕ, ◌≤◌, List, map, sym, subst, rules, max-eq_left, max-eq_right, lapse_entries, IsDay, HaveLapsed, IsValid}
use Rattle.cif_laws.proofs.Common.{raise_horizon, max, Option, recursion_from_All}
use Rattle.state_laws.proofs.states.KeptEntries.{entries_stay}
use Rattle.state_laws.proofs.joins.JoinValid.{raised_is_valid}
use Rattle.cif_change.specs.declared.key.Key.{Key}
use Rattle.state_index.specs.declared.index.Index.{Index}
use Rattle.docker_join.specs.declared.entry.Entry.{Entry}
use Rattle.docker_join.specs.Meaning.{row_meant}
use Rattle.docker_state.specs.declared.item.LedgerItem.{LedgerItem}
use Rattle.state_index.specs.Rooms.{items_of}
use Rattle.docker_state.specs.Indexed.{HasRoomIfAny, IsIndexIfAny}
use Rattle.docker_state.specs.Meaning.{state_meant}

module _ (own day : ℕ) (low : own ≤ day) (ledger : List LedgerItem) (rows after : List (Key × Entry))
    (lapsed : map row_meant after ≡ lapse_entries day (map row_meant rows)) where
  -- raising the horizon of a state to `day` gives the state with the horizon `day` and the rows `after`, in which entries whose bodies ended before `day` have
  -- lapsed
  pub rows_raised : state_meant day ledger after ≡ raise_horizon day (state_meant own ledger rows)
  rows_raised = search (rules, max-eq_right)

  -- a valid state is still valid after its horizon is raised
  pub raised_valid : IsDay day → IsValid (state_meant own ledger rows) → IsValid (state_meant day ledger after)
  raised_valid = search (rules, rows_raised, raised_is_valid)

-- if entries whose bodies ended before a horizon have already lapsed, nothing changes when entries lapse again with the same horizon or an earlier one
pub under_own : (own day : ℕ) → day ≤ own → (rows : List (Key × Entry)) → HaveLapsed own (map row_meant rows)
    → map row_meant rows ≡ lapse_entries (max own day) (map row_meant rows)
under_own = search (rules, entries_stay, recursion_from_All, max-eq_left)

-- if no row has lapsed, the index is still the index of the rows, and its memory is still enough
pub same_index : (rows after : List (Key × Entry)) → after ≡ rows → (index : Option Index) → IsIndexIfAny (map row_meant rows) index
    → IsIndexIfAny (map row_meant after) index
same_index rows after same index is = subst (λ (xs : List (Key × Entry)). IsIndexIfAny (map row_meant xs) index) (sym same) is

pub same_room : (rows after : List (Key × Entry)) → after ≡ rows → (index : Option Index) → HasRoomIfAny (items_of (map row_meant rows)) index
    → HasRoomIfAny (items_of (map row_meant after)) index
same_room rows after same index has = subst (λ (xs : List (Key × Entry)). HasRoomIfAny (items_of (map row_meant xs)) index) (sym same) has
