-- The join of two states, made from the union of their ledgers and the join of their rows.
use Rattle.cif_laws.proofs.Common.{◌≡◌, ℕ, List, ◌++◌, map, ap, sym, ◌∙◌, subst, Contains, arith, rules, common_steps, Option, ◌↔◌, max, max_comm}
use Rattle.cif_laws.proofs.Common.{ledger_item_cmp, IsFloor, IsKept, key_cmp, IsStrictlyAscending, IsValid, IsOpOf, IsJoin, lapse_entry, lapse_entries}
use Rattle.cif_laws.proofs.Common.{IsGreatestAmong}
use Rattle.docker_model.specs.file.Change as model
use Rattle.docker_model.specs.state.Stamp as stamps
use Rattle.docker_model.specs.state.Op as ops
use Rattle.docker_join.specs.declared.entry.Entry.{Entry}
use Rattle.docker_join.specs.Records.{HasRecords}
use Rattle.docker_join.specs.Rows.{AreAscending, IsJoinOfRows}
use Rattle.docker_join.specs.Meaning.{row_meant}
use Rattle.docker_state.specs.declared.item.LedgerItem.{LedgerItem}
use Rattle.docker_state.specs.Meaning.{item_meant, state_meant}
use Rattle.cif_change.specs.declared.key.Key.{Key}
use Rattle.docker_join.proofs.MeantOrder.{ascending_meant, meant_ascending}
use Rattle.docker_state.proofs.LapsedTables.{joined_lapses}
use Rattle.docker_state.proofs.TableJoin.{Keyed, higher}

-- Says that a ledger is the union of two other ledgers: it has exactly their items.
abbrev pub HasUnion : List LedgerItem → List LedgerItem → List LedgerItem → Type 0
HasUnion union first second =
    (item : stamps.LedgerItem) → Contains (map item_meant union) item ↔ Contains (map item_meant first ++ map item_meant second) item

-- Says that the first list of rows has exactly the rows of the second list that aren't below the floor.
abbrev pub HasKeptRows : List (Key × Entry) → List (Key × Entry) → Option stamps.FileStamp → Type 0
HasKeptRows rows joined floor =
    (row : Keyed) → Contains (map row_meant rows) row ↔ (Contains (map row_meant joined) row × IsKept floor row.1.stamp.file)

-- if a put's body belongs under its key, the lines of the body are records
pub op_records : (key : model.Key) (op : ops.Op) → IsOpOf key op → HasRecords op
op_records = search rules

module _ (g h : ℕ) (items others : List LedgerItem) (first second : List (Key × Entry)) (one : IsValid (state_meant g items first))
    (two : IsValid (state_meant h others second)) where
  entry_records : (pair : model.Key × ops.Entry) → Contains (map row_meant first ++ map row_meant second) pair → HasRecords pair.1.op
  entry_records = grind (common_steps, arith, op_records)

  up_first : AreAscending first
  up_first = meant_ascending row_meant (λ (a b : model.Key × ops.Entry). key_cmp a.0 b.0) first one.entries.1

  up_second : AreAscending second
  up_second = meant_ascending row_meant (λ (a b : model.Key × ops.Entry). key_cmp a.0 b.0) second two.entries.1

  -- Unite the ledgers, join the rows, and lapse each entry whose body ended before the horizon. Then the items and rows that aren't below the floor are the
  -- join of the two states.
  pub states_joined : (floor : Option stamps.FileStamp) → IsFloor (map item_meant items ++ map item_meant others) floor
      → (union ledger : List LedgerItem) → HasUnion union items others
      → IsStrictlyAscending ledger_item_cmp (map item_meant ledger)
      → ((item : stamps.LedgerItem) → Contains (map item_meant ledger) item ↔ (Contains (map item_meant union) item × IsKept floor item.stamp))
      → (horizon : ℕ) → horizon ≡ max g h
      → (left right : List (Key × Entry)) → map row_meant left ≡ lapse_entries (max g h) (map row_meant first)
      → map row_meant right ≡ lapse_entries (max h g) (map row_meant second)
      → (joined rows : List (Key × Entry)) → IsJoinOfRows higher left right joined
      → AreAscending rows
      → HasKeptRows rows joined floor
      → IsJoin (state_meant g items first) (state_meant h others second) (state_meant horizon ledger rows)
  states_joined floor is_floor union ledger in_union up_ledger in_ledger horizon horizon_is left right left_is right_is joined rows is up_rows row_in = record {
    horizon = horizon_is;
    floor = floor;
    is_floor = is_floor;
    ledger_ascends = up_ledger;
    ledger = λ item. (
      λ among. let told = (in_ledger item).0 among in ((in_union item).0 told.0, told.1),
      λ told. (in_ledger item).1 ((in_union item).1 told.0, told.1),
    );
    entries_ascend = ascending_meant _ _ _ up_rows;
    entries = λ key entry. (
      λ among.
          let kept = (row_in (key, entry)).0 among in
          let from = (lapses key entry).0 kept.0 in (
            from.0,
            from.1,
            subst (λ (e : ops.Entry). IsKept floor e.stamp.file) (sym from.2) kept.1,
            under from.0 ∙ from.2,
          ),
      λ told.
          let same = sym (under told.0) ∙ told.3 in
          (row_in (key, entry)).1 ((lapses key entry).1 (told.0, told.1, same), subst (λ (e : ops.Entry). IsKept floor e.stamp.file) same told.2),
    );
  }
    where
      under : (entry : ops.Entry) → lapse_entry horizon entry ≡ lapse_entry (max g h) entry
      under entry = ap (λ n. lapse_entry n entry) horizon_is

      lapses : (key : model.Key) (entry : ops.Entry) → Contains (map row_meant joined) (key, entry)
          ↔ ((before : ops.Entry) × IsGreatestAmong (map row_meant first ++ map row_meant second) key before × (lapse_entry (max g h) before ≡ entry))
      lapses = joined_lapses _ _ _ _ _ up_first up_second left_is
          (right_is ∙ ap (λ n. lapse_entries n (map row_meant second)) (max_comm h g)) entry_records _ is
