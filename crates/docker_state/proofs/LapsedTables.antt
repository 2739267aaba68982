-- It makes no difference whether entries lapse before or after two tables are joined.
use Rattle.cif_laws.proofs.Common.{◌≡◌, ℕ, List, ◌++◌, map, ap, sym, ◌∙◌, subst, inl, inr, Contains, rules, ◌↔◌, map-append, lapse, lapse_entry, lapse_keyed}
use Rattle.cif_laws.proofs.Common.{lapse_entries, IsGreatestAmong}
use Rattle.docker_model.specs.file.Change as model
use Rattle.docker_model.specs.state.Op as ops
use Rattle.state_laws.proofs.states.GreatestEntry.{greatest_in}
use Rattle.docker_join.proofs.LapsedRows.{lapsed_ascend}
use Rattle.state_laws.proofs.states.LapsedGreatest.{lapsed_from, greatest_lapses}
use Rattle.cif_change.specs.declared.key.Key.{Key}
use Rattle.docker_join.specs.declared.entry.Entry.{Entry}
use Rattle.docker_join.specs.Records.{HasRecords}
use Rattle.docker_join.specs.Meaning.{entry_meant, row_meant}
use Rattle.docker_join.specs.Rows.{AreAscending, value_at, IsJoinOfRows}
use Rattle.docker_state.proofs.TableJoin.{Keyed, higher, value_in, same_value, joined_greatest, greatest_joined}

-- if the lines of an op's body are records, so are the lines of the body that remains after `lapse`
pub lapse_records : (horizon : ℕ) (op : ops.Op) → HasRecords op → HasRecords (lapse horizon op)
lapse_records = search rules

module _ (horizon : ℕ) (first second left right : List (Key × Entry)) (up_first : AreAscending first) (up_second : AreAscending second)
    (left_is : map row_meant left ≡ lapse_entries horizon (map row_meant first)) (right_is : map row_meant right ≡ lapse_entries horizon (map row_meant second))
    (records : (pair : Keyed) → Contains (map row_meant first ++ map row_meant second) pair → HasRecords pair.1.op)
    (joined : List (Key × Entry)) (joined_is : IsJoinOfRows higher left right joined) where
  abbrev Before : List Keyed
  Before = map row_meant first ++ map row_meant second

  abbrev After : List Keyed
  After = map row_meant left ++ map row_meant right

  all_lapsed : After ≡ lapse_entries horizon Before
  all_lapsed = (λ i. left_is i ++ right_is i) ∙ sym (map-append (lapse_keyed horizon) (map row_meant first) (map row_meant second))

  up_left : AreAscending left
  up_left = lapsed_ascend horizon first left left_is up_first

  up_right : AreAscending right
  up_right = lapsed_ascend horizon second right right_is up_second

  records_after : (pair : Keyed) → Contains After pair → HasRecords pair.1.op
  records_after pair among =
      let found = lapsed_from horizon Before pair.0 pair.1 (subst (λ (xs : List Keyed). Contains xs pair) all_lapsed among) in
      subst (λ (e : ops.Entry). HasRecords e.op) found.2 (lapse_records horizon found.0.op (records (pair.0, found.0) found.1))

  -- for the greatest entry that the two tables have for a key, the result of `lapse_entry horizon` is in the join of the lapsed tables
  lapse_in : (key : model.Key) (entry : ops.Entry) → IsGreatestAmong Before key entry → Contains (map row_meant joined) (key, lapse_entry horizon entry)
  lapse_in = search (rules, greatest_joined, up_left, up_right, records_after, all_lapsed, greatest_lapses)

  -- the join has at most one entry for each key
  one_there : (key : model.Key) (a b : ops.Entry) → Contains (map row_meant joined) (key, a) → Contains (map row_meant joined) (key, b) → a ≡ b
  one_there key a b first_in second_in =
      let one = value_in joined joined_is.ascends key a first_in in
      let two = value_in joined joined_is.ascends key b second_in in
      sym one.2 ∙ ap entry_meant (same_value one.0 two.0 (value_at joined key) one.1 two.1) ∙ two.2

  -- the entries in the join of the lapsed tables are exactly the results of `lapse_entry horizon` for the greatest entries that the two tables have
  pub joined_lapses : (key : model.Key) (entry : ops.Entry) → Contains (map row_meant joined) (key, entry)
      ↔ ((before : ops.Entry) × IsGreatestAmong Before key before × (lapse_entry horizon before ≡ entry))
  joined_lapses key entry = (
    λ among.
        let best = joined_greatest left right joined up_left up_right joined_is key entry among in
        let found = lapsed_from horizon Before key entry (subst (λ (xs : List Keyed). Contains xs (key, entry)) all_lapsed best.among) in
        elim (greatest_in Before key) [
          | inl none ↦ absurd (none found.0 found.1)
          | inr (top, inside, greatest) ↦
              let best_before : IsGreatestAmong Before key top = record { among = inside; greatest = greatest } in
              (top, best_before, one_there key (lapse_entry horizon top) entry (lapse_in key top best_before) among)
        ],
    λ told. subst (λ (e : ops.Entry). Contains (map row_meant joined) (key, e)) told.2 (lapse_in key told.0 told.1),
  )
