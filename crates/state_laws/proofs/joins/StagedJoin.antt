-- All entries of a received state are passed to an office for staging, and the office commits the
-- staged entries. The result is the join of the office's state with the received state without the
-- received horizon.
use Rattle.cif_laws.proofs.Common.{◌≡◌, ℕ, List, ◌++◌, ap, sym, ◌∙◌, subst, inl, inr, Contains, rules, Option, Equal, ordering_reverse, on_total, max-zero}
use Rattle.cif_laws.proofs.Common.{All-contains, Contains-append_left, Contains-append_right, Contains-append_cases, Key, IsAtMost, IsBelow, FileStamp}
use Rattle.cif_laws.proofs.Common.{LedgerItem, IsKept, Entry, entry_cmp, lapse_entry, State, IsJoin, IsValid, IsGoodEntry, IsGreatestAmong}
use Rattle.state_laws.specs.LawTerms.{without_horizon}
use Rattle.state_laws.specs.Staging.{HasNoEntryOf, IsStaged, IsPutIn, IsCommit}
use Rattle.cif_laws.proofs.orders.Orders.{entry_total, key_total, ledger_item_total}
use Rattle.cif_laws.proofs.orders.Ascending.{same_list}
use Rattle.state_laws.proofs.states.PlainTable.{find_in, one_per_key}
use Rattle.cif_laws.proofs.orders.AtMost.{at_most_itself, at_most_below, at_most_or, level}
use Rattle.state_laws.proofs.states.OneJoin.{floor_unique}
use Rattle.state_laws.proofs.states.ExactEntries.{exact_entry}
use Rattle.state_laws.proofs.states.KeptEntries.{kept_up}

module _ (own received : State) (valid : IsValid own) (valid_too : IsValid received) (staged : List (Key × Entry)) (after : State)
    (commit : IsCommit own received.ledger staged after)
    (stages : IsStaged own commit.floor received.entries staged) where
  good_own : (key : Key) (entry : Entry) → Contains own.entries (key, entry) → IsGoodEntry own.ledger (key, entry)
  good_own key entry among = All-contains (IsGoodEntry own.ledger) own.entries (key, entry) valid.entries.0 among

  good_received : (key : Key) (entry : Entry) → Contains received.entries (key, entry) → IsGoodEntry received.ledger (key, entry)
  good_received key entry among = All-contains (IsGoodEntry received.ledger) received.entries (key, entry) valid_too.entries.0 among

  -- an entry of the state and a received entry for the same key are equal if they tie in the order
  -- of entries
  tied_equal : (key : Key) (one two : Entry) → Contains own.entries (key, one) → Contains received.entries (key, two) → entry_cmp one two ≡ Equal → one ≡ two
  tied_equal key one two in_own in_received e = exact_entry key one two (good_own key one in_own).op (good_received key two in_received).op e

  one_own : (key : Key) (one two : Entry) → Contains own.entries (key, one) → Contains own.entries (key, two) → one ≡ two
  one_own key one two = one_per_key own.entries valid.entries.1 key one two

  one_received : (key : Key) (one two : Entry) → Contains received.entries (key, one) → Contains received.entries (key, two) → one ≡ two
  one_received key one two = one_per_key received.entries valid_too.entries.1 key one two

  Best : Key → Entry → Type 0
  Best key entry = IsGreatestAmong (own.entries ++ received.entries) key entry × IsKept commit.floor entry.stamp.file

  -- a staged entry isn't below the floor, and is the greatest entry that the two states have for
  -- its key
  staged_best : (key : Key) (entry : Entry) → Contains staged (key, entry) → Best key entry
  unfolding Best
  staged_best key entry among =
      let told = (stages.members key entry).0 among in (
        record {
          among = Contains-append_right own.entries received.entries (key, entry) told.0;
          greatest = λ other here. elim (Contains-append_cases own.entries received.entries (key, other) here) [
            | inl here ↦ at_most_below entry_cmp _ entry (told.1.greater other here)
            | inr here ↦ subst (λ e. IsAtMost entry_cmp other e) (one_received _ other _ here told.0) (at_most_itself entry_total other)
          ];
        },
        told.1.kept,
      )

  -- suppose that an entry of our own state isn't below the floor, and that no entry for its key is
  -- staged. Then it is the greatest entry that the two states have for the key
  own_best : (key : Key) (entry : Entry) → Contains own.entries (key, entry) → IsKept commit.floor entry.stamp.file → HasNoEntryOf staged key → Best key entry
  unfolding Best
  own_best key entry among kept none = (
    record {
      among = Contains-append_left own.entries received.entries (key, entry) among;
      greatest = λ other here. elim (Contains-append_cases own.entries received.entries (key, other) here) [
        | inl here ↦ subst (λ e. IsAtMost entry_cmp other e) (one_own key other entry here among) (at_most_itself entry_total other)
        | inr here ↦ elim (at_most_or entry_total other entry) [ inl low ↦ low | inr below ↦ absurd (none other (staged_too other here below)) ]
      ];
    },
    kept,
  )
    where
      staged_too : (other : Entry) → Contains received.entries (key, other) → IsBelow entry_cmp entry other → Contains staged (key, other)
      staged_too other here below = (stages.members key other).1 (
        here,
        record {
          kept = kept_up commit.floor entry other (at_most_below entry_cmp entry other below) kept;
          greater = λ mine inside. subst (λ e. IsBelow entry_cmp e other) (one_own key entry mine among inside) below;
        },
      )

  forth : (key : Key) (entry : Entry) → IsPutIn own staged commit.floor key entry → Best key entry
  forth = search (rules, staged_best, own_best)

  -- suppose that the greatest entry that the two states have for a key isn't below the floor. Then
  -- it is staged, or it is in our own state and no entry for the key is staged
  back : (key : Key) (entry : Entry) → Best key entry → IsPutIn own staged commit.floor key entry
  unfolding Best
  back key entry best = elim (Contains-append_cases own.entries received.entries (key, entry) best.0.among) [
    | inl here ↦ inr (here, best.1, none_staged here)
    | inr here ↦ elim (find_in _ key) [
      | inr none ↦ inl ((stages.members key entry).1 (here, record { kept = best.1; greater = λ other inside. absurd (none.1 other inside) }))
      | inl found ↦
          elim (at_most_or entry_total _ found.0.1) [
            | inl high ↦
                let same = tied_equal _ found.0.1 _ found.2 here (level entry_total found.0.1 _
                (best.0.greatest found.0.1 (Contains-append_left own.entries received.entries (key, found.0.1) found.2)) high) in
                let mine = subst (λ e. Contains own.entries (key, e)) same found.2 in
                inr (mine, best.1, none_staged mine)
            | inr below ↦ inl ((stages.members key entry).1 (
              here,
              record { kept = best.1; greater = λ other inside. subst (λ e. IsBelow entry_cmp e entry) (one_own key _ other found.2 inside) below },
            ))
          ]
    ]
  ]
    where
      -- if our own entry is the greatest entry that the two states have for its key, no entry for
      -- the key is staged
      none_staged : Contains own.entries (key, entry) → HasNoEntryOf staged key
      none_staged here other inside =
          let told = (stages.members key other).0 inside in
          let up = best.0.greatest other (Contains-append_right own.entries received.entries (key, other) told.0) in
          let below = told.1.greater entry here in
          up (entry_total.antisymm other entry ∙ ap ordering_reverse below)

  -- the state after a commit is the join of `own` with the received state without its horizon
  pub commit_is_join : IsJoin own (without_horizon received) after
  unfolding Best
  commit_is_join = record {
    horizon = commit.horizon ∙ sym (max-zero own.horizon);
    floor = commit.floor;
    is_floor = commit.is_floor;
    ledger_ascends = commit.ledger_ascends;
    ledger = commit.ledger;
    entries_ascend = commit.entries_ascend;
    entries = λ key entry. (
      λ among.
          let told = (commit.entries key entry).0 among in
          let best = forth _ _ told.1 in
          (told.0, best.0, best.1, told.2),
      λ told. (commit.entries key entry).1 (told.0, back _ _ (told.1, told.2), told.3),
    );
  }

-- a state, ledger items and staged entries uniquely determine the state after a commit
pub one_commit : (own : State) (items : List LedgerItem) (staged : List (Key × Entry)) (a b : State) → IsCommit own items staged a → IsCommit own items staged b
    → a ≡ b
one_commit own items staged a b one two =
    let floors : one.floor ≡ two.floor = floor_unique _ _ (λ item. (λ x. x, λ x. x)) _ _ one.is_floor two.is_floor in
    let horizons : a.horizon ≡ b.horizon = one.horizon ∙ sym two.horizon in
    let ledgers : a.ledger ≡ b.ledger = same_list ledger_item_total _ _ one.ledger_ascends two.ledger_ascends (λ item. (
      λ among. let told = (one.ledger item).0 among in (two.ledger item).1 (told.0, subst (λ floor. IsKept floor item.stamp) floors told.1),
      λ among. let told = (two.ledger item).0 among in (one.ledger item).1 (told.0, subst (λ floor. IsKept floor item.stamp) (sym floors) told.1),
    )) in
    let entries : a.entries ≡ b.entries = same_list
    (on_total (λ (entry : Key × Entry). entry.0) key_total) _ _ one.entries_ascend two.entries_ascend (λ entry. (
      λ among. (two.entries entry.0 entry.1).1 (moved entry.0 entry.1 one.floor two.floor a.horizon b.horizon floors horizons
          ((one.entries entry.0 entry.1).0 among)),
      λ among. (one.entries entry.0 entry.1).1 (moved entry.0 entry.1 two.floor one.floor b.horizon a.horizon (sym floors) (sym horizons)
          ((two.entries entry.0 entry.1).0 among)),
    )) in
    λ i. record { horizon = horizons i; ledger = ledgers i; entries = entries i }
  where
    moved : (key : Key) (entry : Entry) (f g : Option FileStamp) (m n : ℕ) → f ≡ g → m ≡ n
        → (before : Entry) × IsPutIn own staged f key before × (lapse_entry m before ≡ entry)
        → (before : Entry) × IsPutIn own staged g key before × (lapse_entry n before ≡ entry)
    moved key entry f g m n floors horizons told = search rules

-- the offered entries uniquely determine the staged entries
pub one_staged : (own : State) (floor : Option FileStamp) (offered a b : List (Key × Entry)) → IsStaged own floor offered a → IsStaged own floor offered b
    → a ≡ b
one_staged own floor offered a b one two = same_list (on_total (λ (entry : Key × Entry). entry.0) key_total) _ _ one.ascending two.ascending (λ entry. (
  λ among. (two.members entry.0 entry.1).1 ((one.members entry.0 entry.1).0 among),
  λ among. (one.members entry.0 entry.1).1 ((two.members entry.0 entry.1).0 among),
))
