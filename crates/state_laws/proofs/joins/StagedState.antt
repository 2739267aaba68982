-- A state with only the received ledger items and the staged entries is valid. The join of an
-- office's own state with this state equals the state after the commit.
use Rattle.cif_laws.proofs.Common.{◌≡◌, List, ◌++◌, ◌∙◌, ap, subst, arith, inl, inr, Contains, Option, ordering_reverse, max-zero, All-contains}
use Rattle.cif_laws.proofs.Common.{Contains-append_left, Contains-append_right, Contains-append_cases, Key, IsAtMost, FileStamp, IsFloor, IsKept, Entry}
use Rattle.cif_laws.proofs.Common.{entry_cmp, State, AreAscending, IsValid, IsGoodEntry, IsJoin, IsGreatestAmong}
use Rattle.state_laws.specs.Staging.{IsStaged, IsPutIn, IsCommit, staged_state}
use Rattle.cif_laws.proofs.lists.Membership.{all_members}
use Rattle.cif_laws.proofs.orders.Orders.{entry_total}
use Rattle.state_laws.proofs.states.PlainTable.{one_per_key}
use Rattle.cif_laws.proofs.orders.AtMost.{at_most_itself, at_most_below}
use Rattle.state_laws.proofs.joins.RaisedHorizon.{none_to_lapse}
use Rattle.state_laws.proofs.states.OneJoin.{floor_unique}

-- the state with the ledger items of a valid received state, and with the entries staged from that
-- state, is valid
pub staged_is_valid : (own received : State) (floor : Option FileStamp) (staged : List (Key × Entry)) → IsValid received
    → IsStaged own floor received.entries staged
    → IsValid (staged_state received.ledger staged)
staged_is_valid own received floor staged valid stages = record {
  horizon = omega arith;
  ledger = valid.ledger;
  entries = (
    all_members _ _ (λ entry among.
        All-contains (IsGoodEntry received.ledger) received.entries entry valid.entries.0 ((stages.members entry.0 entry.1).0 among).0),
    stages.ascending,
  );
  have_lapsed = none_to_lapse _;
}

module _ (own received : State) (floor : Option FileStamp) (staged : List (Key × Entry)) (after : State) (up : AreAscending own.entries)
    (is_floor : IsFloor (own.ledger ++ received.ledger) floor)
    (stages : IsStaged own floor received.entries staged) (join : IsJoin own (staged_state received.ledger staged) after) where
  Best : Key → Entry → Type 0
  Best key entry = IsGreatestAmong (own.entries ++ staged) key entry × IsKept join.floor entry.stamp.file

  floors : floor ≡ join.floor
  floors = floor_unique (own.ledger ++ received.ledger) (own.ledger ++ received.ledger) (λ item. (λ x. x, λ x. x)) floor join.floor is_floor join.is_floor

  -- a staged entry is greater than the state's entry for the same key
  above : (key : Key) (mine entry : Entry) → Contains own.entries (key, mine) → Contains staged (key, entry) → ¬ IsAtMost entry_cmp entry mine
  above key mine entry here there low = low (entry_total.antisymm entry mine ∙ ap ordering_reverse (((stages.members key entry).0 there).1.greater mine here))

  forth : (key : Key) (entry : Entry) → Best key entry → IsPutIn own staged join.floor key entry
  unfolding Best
  forth key entry best = elim (Contains-append_cases own.entries staged (key, entry) best.0.among) [
    | inl here ↦ inr (
      here,
      best.1,
      λ other there. above _ _ _ here there (best.0.greatest other (Contains-append_right own.entries staged (key, other) there)),
    )
    | inr there ↦ inl there
  ]

  back : (key : Key) (entry : Entry) → IsPutIn own staged join.floor key entry → Best key entry
  unfolding Best
  back key entry (inl there) = (
    record {
      among = Contains-append_right own.entries staged (key, entry) there;
      greatest = λ other inside.
          elim (Contains-append_cases own.entries staged (key, other) inside) [
            | inl here ↦ at_most_below entry_cmp other entry (((stages.members key entry).0 there).1.greater other here)
            | inr too ↦ subst (λ e. IsAtMost entry_cmp other e) (one_per_key staged stages.ascending key other entry too there)
                (at_most_itself entry_total other)
          ];
    },
    subst (λ f. IsKept f entry.stamp.file) floors ((stages.members key entry).0 there).1.kept,
  )
  back key entry (inr told) = (
    record {
      among = Contains-append_left own.entries staged (key, entry) told.0;
      greatest = λ other inside.
          elim (Contains-append_cases own.entries staged (key, other) inside) [
            | inl here ↦ subst (λ e. IsAtMost entry_cmp other e) (one_per_key own.entries up key other entry here told.0) (at_most_itself entry_total other)
            | inr there ↦ absurd (told.2 other there)
          ];
    },
    told.1,
  )

  -- the state after the commit is the join of `own` with the state that has only the received
  -- ledger items and the staged entries
  pub join_with_staged : IsCommit own received.ledger staged after
  unfolding Best
  join_with_staged = record {
    horizon = join.horizon ∙ max-zero own.horizon;
    floor = join.floor;
    is_floor = join.is_floor;
    ledger_ascends = join.ledger_ascends;
    ledger = join.ledger;
    entries_ascend = join.entries_ascend;
    entries = λ key entry. (
      λ among. let told = (join.entries key entry).0 among in (told.0, forth key told.0 (told.1, told.2), told.3),
      λ told. let best = back key told.0 told.1 in (join.entries key entry).1 (told.0, best.0, best.1, told.2),
    );
  }
