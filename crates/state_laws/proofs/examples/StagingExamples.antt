-- A worked example of staging: an office with the horizon 15 June receives a schedule that ends on
-- 14 June.
use Rattle.cif_laws.proofs.Common.{◌≡◌, ap, ◌∙◌, arith, [], ◌∷◌, subst, inl, None, rules, LedgerItem, State, raise_horizon}
use Rattle.state_laws.specs.Staging.{IsStaged, IsCommit}
use Rattle.cif_laws.proofs.lists.Membership.{nil-Contains, Contains-single}
use Rattle.state_laws.proofs.examples.HorizonExamples.{f2_state, state_with, lapsed_entry, raised_state}
use Rattle.state_laws.proofs.states.LapsedGreatest.{lapsed_from}
use Rattle.state_laws.proofs.examples.StateExamples.{f2_item}

abbrev own : State
own = record { horizon = 23542; ledger = []; entries = [] }

-- the received put is staged unchanged
all_are_staged : IsStaged own None f2_state.entries f2_state.entries
all_are_staged = search (rules, nil-Contains)

committed_so : IsCommit own f2_state.ledger f2_state.entries (raise_horizon 23542 f2_state)
committed_so = record {
  horizon = λ i. 23542;
  floor = None;
  is_floor = λ item among full. no_full item (Contains-single f2_item item among) full;
  ledger_ascends = (tt, tt);
  ledger = λ item. (λ among. (among, tt), λ told. told.0);
  entries_ascend = (tt, tt);
  entries = λ key entry. (
    λ among. let before = lapsed_from 23542 f2_state.entries key entry among in (before.0, inl before.1, before.2),
    search rules,
  );
}
  where
    no_full : (item : LedgerItem) → f2_item ≡ item → item.indicator ≡ 70 → ⊥
    no_full item same full = let bad : f2_item.indicator ≡ 70 = ap (λ (i : LedgerItem). i.indicator) same ∙ full in omega (arith, bad)

-- after the commit the schedule has lapsed, and the stamp of its entry is unchanged
commit_raises : IsCommit own f2_state.ledger f2_state.entries (state_with 23542 (lapsed_entry ∷ []))
commit_raises = subst (IsCommit own f2_state.ledger f2_state.entries) raised_state committed_so
