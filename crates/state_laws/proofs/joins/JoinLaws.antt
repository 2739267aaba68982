-- The join is commutative, associative and, for valid states, idempotent. Two states have at most
-- one join.
use Rattle.cif_laws.proofs.Common.{◌++◌, ◌≡◌, ◌∙◌, sym, ◌≤◌, subst, arith, List, Contains, inl, inr, rules, max, max_comm, le-max_left, le-max_right}
use Rattle.cif_laws.proofs.Common.{max-eq_left, Contains-append_cases, Contains-append_left, Key, IsAtMost, LedgerItem, IsKept, Entry, entry_cmp, lapse_entry}
use Rattle.cif_laws.proofs.Common.{State, IsJoin, IsValid, IsGoodEntry}
use Rattle.cif_laws.proofs.lists.Membership.{same_members_turned, same_members_rotated, Contains-map, member_of}
use Rattle.cif_laws.proofs.orders.AtMost.{at_most_itself}
use Rattle.cif_laws.proofs.orders.Orders.{entry_total}
use Rattle.state_laws.proofs.states.PlainTable.{one_per_key}
use Rattle.state_laws.proofs.states.ReducedEntries.{IsReduced, reduced_twice}
use Rattle.state_laws.proofs.states.ReducedMembers.{reduced_along, reduced_unique, kept_floor}

-- ---- `IsJoin` can be stated with `IsReduced`

-- a join of two states satisfies `IsReduced` for the ledger items and the entries of both states
pub join_reduced : (a b c : State) → IsJoin a b c → IsReduced (a.ledger ++ b.ledger) (a.entries ++ b.entries) c
join_reduced = search rules

-- suppose that a state has the greater of two states' horizons, and satisfies `IsReduced` for the
-- ledger items and the entries of both states. Then it is the join of the two states
pub reduced_join : (a b c : State) → c.horizon ≡ max a.horizon b.horizon → IsReduced (a.ledger ++ b.ledger) (a.entries ++ b.entries) c → IsJoin a b c
reduced_join = search rules

-- the join is commutative
pub join_commutes : (a b c : State) → IsJoin a b c → IsJoin b a c
join_commutes a b c is = search (rules, reduced_join, max_comm, reduced_along, same_members_turned, join_reduced)

-- two states have at most one join
pub join_unique : (a b c d : State) → IsJoin a b c → IsJoin a b d → c ≡ d
join_unique a b c d is_c is_d = reduced_unique _ _ _ _ (is_c.horizon ∙ sym is_d.horizon) (join_reduced _ _ _ is_c) (join_reduced _ _ _ is_d)

-- ---- the join is associative

-- the horizon of a join is at least the first state's horizon
pub horizon_left : (a b c : State) → IsJoin a b c → a.horizon ≤ c.horizon
horizon_left a b c is = subst (λ h. a.horizon ≤ h) (sym is.horizon) (le-max_left a.horizon b.horizon)

-- the horizon of a join is at least the second state's horizon
pub horizon_right : (a b c : State) → IsJoin a b c → b.horizon ≤ c.horizon
horizon_right a b c is = subst (λ h. b.horizon ≤ h) (sym is.horizon) (le-max_right a.horizon b.horizon)

-- the join is associative
pub join_associates : (a b c ab bc x y : State) → IsJoin a b ab → IsJoin ab c x → IsJoin b c bc → IsJoin a bc y → x ≡ y
join_associates a b c ab bc x y is_ab is_x is_bc is_y =
    let turn = join_commutes _ bc _ is_y in
    let left = reduced_twice (a.ledger ++ b.ledger) _ (a.entries ++ b.entries) _ ab _ (join_reduced a _ ab is_ab) (join_reduced _ c _ is_x)
    (horizon_left ab _ x is_x) in
    let right = reduced_twice _ a.ledger _ a.entries _ y (join_reduced _ c _ is_bc) (join_reduced bc _ y turn) (horizon_left _ a _ turn) in
    let horizons : x.horizon ≡ y.horizon = search rules in
    search (rules, reduced_unique, reduced_along, same_members_rotated)

-- ---- the join of a valid state with itself is the same state

one_of_two : {A : Type 0} (xs : List A) (x : A) → Contains (xs ++ xs) x → Contains xs x
one_of_two xs x among = elim (Contains-append_cases xs xs x among) [ inl here ↦ here | inr here ↦ here ]

-- the join is idempotent for valid states
pub join_idempotent : (a : State) → IsValid a → IsJoin a a a
join_idempotent a valid = record {
  horizon = sym (max-eq_left {n = a.horizon} {m = a.horizon} (omega arith));
  floor = valid.ledger.floor;
  is_floor = kept_floor a.ledger (a.ledger ++ a.ledger) valid.ledger.floor valid.ledger.is_floor (λ item among. one_of_two a.ledger item among)
      (λ item among low. Contains-append_left a.ledger a.ledger item among);
  ledger_ascends = valid.ledger.ascending;
  ledger = λ item. (
    λ among. (Contains-append_left a.ledger a.ledger item among, member_of (λ i. IsKept valid.ledger.floor i.stamp) a.ledger item valid.ledger.kept among),
    λ told. one_of_two a.ledger item told.0,
  );
  entries_ascend = valid.entries.1;
  entries = λ key entry. (
    λ among. (
      entry,
      record {
        among = Contains-append_left a.entries a.entries (key, entry) among;
        greatest = λ other inside.
            subst (λ e. IsAtMost entry_cmp other e) (one_per_key a.entries valid.entries.1 key other entry (one_of_two a.entries (key, other) inside) among)
            (at_most_itself entry_total other);
      },
      kept key entry among,
      stays key entry among,
    ),
    λ told.
        let there = one_of_two a.entries (key, told.0) told.1.among in
        subst (λ e. Contains a.entries (key, e)) (sym (stays key told.0 there) ∙ told.3) there,
  );
}
  where
    stays : (key : Key) (entry : Entry) → Contains a.entries (key, entry) → lapse_entry a.horizon entry ≡ entry
    stays key entry among = search rules

    kept : (key : Key) (entry : Entry) → Contains a.entries (key, entry) → IsKept valid.ledger.floor entry.stamp.file
    kept key entry among =
        let good = member_of (IsGoodEntry a.ledger) a.entries (key, entry) valid.entries.0 among in
        let found = Contains-map (λ (item : LedgerItem). item.stamp) a.ledger entry.stamp.file good.stamp.in_ledger in
        subst (λ s. IsKept valid.ledger.floor s) found.2 (member_of (λ i. IsKept valid.ledger.floor i.stamp) a.ledger found.0 valid.ledger.kept found.1)
