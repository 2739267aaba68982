-- Setting a horizon that isn't greater than the state's horizon leaves a valid state unchanged. A
-- horizon may be set after a join instead of before the join. If the horizon is 0, no entry lapses.
use Rattle.cif_laws.proofs.Common.{◌≡◌, ℕ, ◌≤◌, List, Contains, subst, ap, sym, ◌∙◌, rules, Option, ◌↔◌, max, le-max_left, max-eq_left, max-zero}
use Rattle.cif_laws.proofs.Common.{recursion_from_All, Key, IsStrictlyAscending, FileStamp, LedgerItem, ledger_item_cmp, ledger_item_of, Op, Entry, lapse_entry}
use Rattle.cif_laws.proofs.Common.{HasNotToLapse, State, AreAscending, HaveLapsed, IsValid, IsJoin, lapse_state, raise_horizon, IsKeptFile, IsSummary}
use Rattle.cif_laws.proofs.Common.{IsGreatestEntryOf}
use Rattle.std.proofs.Math.Nat.{zero-max}
use Rattle.state_laws.specs.LawTerms.{without_horizon}
use Rattle.docker_model.specs.state.Summary.{IsFloorOf}
use Rattle.state_laws.proofs.states.PlainTable.{Keyed}
use Rattle.state_laws.proofs.states.Lapse.{entry_twice, lapse_none}
use Rattle.state_laws.proofs.states.LapsedGreatest.{lapsed_from, lapsed_to}
use Rattle.state_laws.proofs.states.KeptEntries.{lapse_ascends, entries_stay}

-- ---- setting a horizon that isn't greater than the state's horizon leaves a valid state unchanged

-- if no body in a state ended before a horizon, lapsing the state with this horizon changes only
-- the state's horizon
pub lapsed_already : (horizon : ℕ) (state : State) → HaveLapsed horizon state.entries
    → lapse_state horizon state ≡ record { horizon = horizon; ledger = state.ledger; entries = state.entries }
lapsed_already = search (rules, entries_stay, recursion_from_All)

-- setting a horizon that isn't greater than the state's horizon leaves a valid state unchanged
pub not_greater : (horizon : ℕ) (state : State) → IsValid state → horizon ≤ state.horizon → raise_horizon horizon state ≡ state
not_greater horizon state valid low = ap (λ h. lapse_state h state) (max-eq_left low) ∙ lapsed_already state.horizon state valid.have_lapsed

-- removing the horizon of a valid state and setting it again leaves the state unchanged
pub set_last : (state : State) → IsValid state → raise_horizon state.horizon (without_horizon state) ≡ state
set_last = search (rules, zero-max, lapsed_already)

-- ---- a horizon may be set after a join instead of before

-- a state `b` may be joined without its horizon if this horizon is set afterwards: the result is
-- the join of `a` with the whole state `b`
pub join_then_set : (a b c : State) → IsJoin a (without_horizon b) c → IsJoin a b (raise_horizon b.horizon c)
join_then_set a b c is = record {
  horizon = ap (λ h. max h b.horizon) (is.horizon ∙ max-zero a.horizon);
  floor = is.floor;
  is_floor = is.is_floor;
  ledger_ascends = is.ledger_ascends;
  ledger = is.ledger;
  entries_ascend = lapse_ascends _ c.entries is.entries_ascend;
  entries = λ key entry. (
    λ among.
        let before = lapsed_from _ c.entries _ entry among in
        let told = (is.entries key before.0).0 before.1 in
        (told.0, told.1, told.2, sym (twofold told.0) ∙ ap (lapse_entry (max c.horizon b.horizon)) told.3 ∙ before.2),
    λ told.
        let there = (is.entries key (lapse_entry c.horizon told.0)).1 (told.0, told.1, told.2, λ i. lapse_entry c.horizon told.0) in
        subst (λ e. Contains (raise_horizon b.horizon c).entries (key, e)) (twofold told.0 ∙ told.3) (search (rules, lapsed_to)),
  );
}
  where
    twofold : (entry : Entry) → lapse_entry (max c.horizon b.horizon) (lapse_entry c.horizon entry) ≡ lapse_entry (max c.horizon b.horizon) entry
    twofold entry = entry_twice _ c.horizon _ ∙ ap (λ h. lapse_entry h entry) (max-eq_left (le-max_left c.horizon b.horizon))

-- if the horizon is 0, no op has to lapse
pub none_has_to : (op : Op) → HasNotToLapse 0 op
none_has_to = search rules

-- if the horizon is 0, no entry has to lapse
pub none_to_lapse : (entries : List Keyed) → HaveLapsed 0 entries
none_to_lapse = search (rules, none_has_to)

-- `state` is the summary of the files without a horizon. For each key it has the greatest entry
-- from the files that aren't below the floor, and no entry has lapsed
pub record IsPlainSummary (files : List (List (List ℕ))) (state : State) : Type 0 where
  pub no_horizon : state.horizon ≡ 0
  pub floor : Option FileStamp
  pub is_floor : IsFloorOf files floor
  pub ledger_ascends : IsStrictlyAscending ledger_item_cmp state.ledger
  pub ledger : (item : LedgerItem) → Contains state.ledger item ↔ ((file : List (List ℕ)) × IsKeptFile files floor file × (ledger_item_of file ≡ item))
  pub entries_ascend : AreAscending state.entries
  pub entries : (key : Key) (entry : Entry) → Contains state.entries (key, entry) ↔ IsGreatestEntryOf files floor key entry

lapse_entry_none : (entry : Entry) → lapse_entry 0 entry ≡ entry
lapse_entry_none entry = λ i. record { stamp = entry.stamp; op = lapse_none entry.op i }

-- `IsPlainSummary` holds for a state if and only if the state is a summary with the horizon 0
pub plain_summary : (files : List (List (List ℕ))) (state : State) → IsPlainSummary files state ↔ IsSummary files 0 state
plain_summary files state = (
  λ is. record {
    horizon_is = is.no_horizon;
    floor = is.floor;
    is_floor = is.is_floor;
    ledger_ascends = is.ledger_ascends;
    ledger = is.ledger;
    entries_ascend = is.entries_ascend;
    entries = λ key entry. (
      λ among. (entry, (is.entries key entry).0 among, lapse_entry_none _),
      λ told. subst (λ e. Contains state.entries (key, e)) (sym (lapse_entry_none _) ∙ told.2) ((is.entries key told.0).1 told.1),
    );
  },
  λ is. record {
    no_horizon = is.horizon_is;
    floor = is.floor;
    is_floor = is.is_floor;
    ledger_ascends = is.ledger_ascends;
    ledger = is.ledger;
    entries_ascend = is.entries_ascend;
    entries = λ key entry. (
      λ among.
          let told = (is.entries key entry).0 among in
          subst (λ e. IsGreatestEntryOf files is.floor key e) (sym (lapse_entry_none _) ∙ told.2) told.1,
      λ best. (is.entries key entry).1 (entry, best, lapse_entry_none _),
    );
  },
)
