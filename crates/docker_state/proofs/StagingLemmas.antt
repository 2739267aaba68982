-- Lemmas on what staging one more entry does, and when a commit has nothing to do.
use Rattle.cif_laws.proofs.Common.{◌≡◌, List, [], ◌++◌, sym, subst, inl, inr, ◌⊎◌, Contains, Some, None, eqb-true, arith, rules, common_steps, Option, ◌↔◌}
use Rattle.cif_laws.proofs.Common.{IsTrue, Bool, true, false, length, ◌==◌, Ordering, Less, is_lt, max-zero, All-contains, Contains-append_left}
use Rattle.cif_laws.proofs.Common.{Contains-append_cases, FileStamp, LedgerItem, IsFloor, IsKept, entry_cmp, IsAtMost, lapse_entry, State, entry_at, IsValid}
use Rattle.cif_laws.proofs.Common.{IsGoodEntry, IsGreatestAmong, IsJoin, IsStampHere}
use Rattle.docker_model.specs.file.Change as model
use Rattle.docker_model.specs.state.Op as ops
use Rattle.state_laws.specs.Staging.{IsGreaterThan, IsToStage, staged_state}
use Rattle.state_laws.proofs.joins.StagedEntry.{to_stage_by_get}
use Rattle.cif_laws.proofs.lists.Membership.{all_members, Contains-map, nil-Contains}
use Rattle.state_laws.proofs.states.Lapse.{entry_stays}
use Rattle.cif_laws.proofs.orders.Orders.{entry_total}
use Rattle.state_laws.proofs.states.PlainTable.{one_per_key}
use Rattle.state_laws.proofs.states.OneJoin.{floor_unique}
use Rattle.cif_laws.proofs.orders.AtMost.{at_most_itself}
use Rattle.docker_state.specs.Staging.{Staging, HasKeptItems, HasNothingNew, IsAboveStaged}

-- appending the empty list to a list adds no element
in_first : {A : Type 0} (xs : List A) (x : A) → Contains (xs ++ []) x → Contains xs x
in_first = search (rules, nil-Contains)

-- the lemmas for a state whose ledger has each received item that isn't below the floor
module _ (own : State) (valid : IsValid own) (items : List LedgerItem) (floor : Option FileStamp) (is_floor : IsFloor (own.ledger ++ items) floor)
    (has : HasKeptItems own.ledger items floor) where
  -- the floor of both ledgers together is the floor of our own ledger
  own_floor : IsFloor own.ledger floor
  own_floor = by floor is_floor has
    where
      by : (f : Option FileStamp) → IsFloor (own.ledger ++ items) f → HasKeptItems own.ledger items f → IsFloor own.ledger f
      by None none has = λ item among. none item (Contains-append_left own.ledger items item among)
      by (Some stamp) top has = record {
        full = top.full;
        among = among (Contains-append_cases own.ledger items top.full top.among);
        is_full = top.is_full;
        stamped = top.stamped;
        greatest = λ item inside full. top.greatest item (Contains-append_left own.ledger items item inside) full;
      }
        where
          among : Contains own.ledger top.full ⊎ Contains items top.full → Contains own.ledger top.full
          among (inl here) = here
          among (inr there) = search rules

  all_kept : (item : LedgerItem) → Contains own.ledger item → IsKept floor item.stamp
  all_kept = search (rules, floor_unique, own_floor)

  entry_kept : (key : model.Key) (entry : ops.Entry) → Contains own.entries (key, entry) → IsKept floor entry.stamp.file
  entry_kept key entry among =
      let good = All-contains (IsGoodEntry own.ledger) own.entries (key, entry) valid.entries.0 among in
      let item = Contains-map (λ (i : LedgerItem). i.stamp) own.ledger entry.stamp.file good.stamp.in_ledger in
      subst (IsKept floor) item.2 (all_kept item.0 item.1)

  has_lapsed : (key : model.Key) (entry : ops.Entry) → Contains own.entries (key, entry) → lapse_entry own.horizon entry ≡ entry
  has_lapsed = search (rules, entry_stays)

  greatest_own : (key : model.Key) (entry : ops.Entry) → Contains own.entries (key, entry) → IsGreatestAmong (own.entries ++ []) key entry
  greatest_own key entry among = record {
    among = Contains-append_left own.entries [] (key, entry) among;
    greatest = λ other inside.
        subst (λ e. IsAtMost entry_cmp other e) (one_per_key own.entries valid.entries.1 key other entry (in_first own.entries (key, other) inside) among)
        (at_most_itself entry_total other);
  }

  -- if no entry is staged, the join with the received state is our state
  pub join_of_nothing_new : (staged : List (model.Key × ops.Entry)) → staged ≡ [] → IsJoin own (staged_state items staged) own
  join_of_nothing_new staged none = subst (λ (es : List (model.Key × ops.Entry)). IsJoin own (staged_state items es) own) (sym none) (record {
    horizon = sym (max-zero own.horizon);
    floor = floor;
    is_floor = is_floor;
    ledger_ascends = valid.ledger.ascending;
    ledger = λ item. (
      λ among. (Contains-append_left own.ledger items item among, all_kept _ among),
      λ told. elim (Contains-append_cases own.ledger items item told.0) [ inl here ↦ here | inr there ↦ has item there told.1 ],
    );
    entries_ascend = valid.entries.1;
    entries = λ key entry. (
      λ among. (entry, greatest_own _ _ among, entry_kept _ _ among, has_lapsed _ _ among),
      search rules,
    );
  })

-- a good entry can be staged after the staged entries, if its key is above their keys
pub entry_here : (items : List LedgerItem) (staged : List (model.Key × ops.Entry)) (key : model.Key) (entry : ops.Entry) → IsAboveStaged staged key
    → IsGoodEntry items (key, entry)
    → IsStampHere (staged_state items staged) key entry.stamp
entry_here = search (rules, all_members)

-- whether a received entry has to be staged depends only on the floor and on our entry for the same key, if we have one
pub to_stage_tells : (own : State) → IsValid own → (floor : Option FileStamp) (key : model.Key) (entry : ops.Entry) (mine : Option ops.Entry)
    → mine ≡ entry_at own key
    → (b : Bool) → IsTrue b ↔ (IsKept floor entry.stamp.file × IsGreaterThan mine entry) → IsTrue b ↔ IsToStage own floor key entry
to_stage_tells = search (rules, to_stage_by_get)

-- suppose that a received entry isn't below the floor. Then the entry has to be staged if and only if our entry for the same key is less than the received
-- entry
pub below_tells : (Kept : Type 0) → Kept → (to : Ordering) (b : Bool) → b ≡ is_lt to → IsTrue b ↔ (Kept × (to ≡ Less))
below_tells = search rules

-- if nothing new was received, the join with the received state is our state
pub nothing_new_is_join : (own : State) → IsValid own → (staging : Staging) → IsFloor (own.ledger ++ staging.items) staging.floor → (ledger : List LedgerItem)
    → ledger ≡ own.ledger
    → HasNothingNew ledger staging → IsJoin own (staged_state staging.items staging.staged) own
nothing_new_is_join = search (rules, join_of_nothing_new)

none_in : {A : Type 0} (xs : List A) → (length xs == 0) ≡ true → xs ≡ []
none_in = grind (common_steps, arith, eqb-true)

-- suppose that no entry is staged. Then nothing new was received if and only if the ledger has each
-- received item that isn't below the floor
pub nothing_new_tells : (ledger : List LedgerItem) (staging : Staging) (empty : Bool) → empty ≡ (length staging.staged == 0) → empty ≡ true
    → (b : Bool) → IsTrue b ↔ HasKeptItems ledger staging.items staging.floor → IsTrue b ↔ HasNothingNew ledger staging
nothing_new_tells = search (rules, none_in)

-- if the test for nothing new fails, something new was received
pub something_new : (b : Bool) (ledger own : List LedgerItem) → ledger ≡ own → (staging : Staging) → IsTrue b ↔ HasNothingNew ledger staging → b ≡ false
    → ¬ HasNothingNew own staging
something_new = search rules
