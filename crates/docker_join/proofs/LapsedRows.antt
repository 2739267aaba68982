-- Lemmas on letting the entries of rows lapse one by one, from the first row to the last.
use Rattle.cif_laws.proofs.Common.{◌≡◌, ℕ, ◌≤◌, List, ◌++◌, map, length, take, drop, sym, subst, rules, Ordering, take_all, drop_all, append-nil, key_cmp}
use Rattle.cif_laws.proofs.Common.{lapse_entries, IsStrictlyAscending}
use Rattle.docker_model.specs.file.Change as model
use Rattle.docker_model.specs.state.Op as ops
use Rattle.state_laws.proofs.states.KeptEntries.{lapse_ascends}
use Rattle.cif_change.specs.declared.key.Key.{Key}
use Rattle.docker_join.specs.declared.entry.Entry.{Entry}
use Rattle.docker_join.specs.Meaning.{row_meant}
use Rattle.docker_join.specs.Rows.{AreAscending}
use Rattle.docker_join.proofs.MeantOrder.{ascending_meant, meant_ascending}

abbrev Row : Type 0
Row = Key × Entry

-- suppose that the entries of the first `i` rows have lapsed already. Then letting all entries
-- lapse results in the first `i` rows, followed by the results of `lapse_entries` for the other
-- rows
abbrev pub lapsed_from : ℕ → ℕ → List (Key × Entry) → List (model.Key × ops.Entry)
lapsed_from horizon i rows = map row_meant (take i rows) ++ lapse_entries horizon (map row_meant (drop i rows))

-- if `i` is past the last row, the rows are already the rows that result from letting all entries lapse
pub all_lapsed : (horizon : ℕ) (all : List (model.Key × ops.Entry)) (rows : List Row) (i : ℕ) → length rows ≤ i → lapsed_from horizon i rows ≡ all
    → map row_meant rows ≡ all
all_lapsed = search (rules, take_all, append-nil, drop_all)

-- writing new rows over the same number of old rows results in the new rows
pub written_back : (new old : List Row) (n : ℕ) → length new ≡ n → length old ≡ n → take n (new ++ drop (length new) old) ≡ new
written_back = search (rules, drop_all, append-nil, take_all)

-- rows that ascend still ascend after entries have lapsed: the keys are unchanged
pub lapsed_ascend : (horizon : ℕ) (rows after : List Row) → map row_meant after ≡ lapse_entries horizon (map row_meant rows) → AreAscending rows
    → AreAscending after
lapsed_ascend horizon rows after same up = meant_ascending _ _ _
    (subst (IsStrictlyAscending by_key) (sym same) (lapse_ascends _ _ (ascending_meant _ _ _ up)))
  where
    by_key : model.Key × ops.Entry → model.Key × ops.Entry → Ordering
    by_key a b = key_cmp a.0 b.0
