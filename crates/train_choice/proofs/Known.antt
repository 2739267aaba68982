-- The remembered train identities and associations are correct, and each look-up preserves their correctness.
use Rattle.cif_laws.proofs.Common.{◌≡◌, ℕ, Bool, true, false, cond, List, refl, sym, ◌∙◌, subst, Some, rules, Option, option_map, ◌&&◌, Ordering, get, Updates}
use Rattle.cif_laws.proofs.Common.{Equal, on, nat_cmp, is_eq, exact_bytes, exact_unsigned, Group, group_of, association_choice_cmp, association_runs}
use Rattle.cif_laws.proofs.Common.{AssociationKey, association_key_cmp, bytes_cmp, Row, AreRowsOf, Table}
use Rattle.std.specs.BTreeMap.{BTreeMap}
use Rattle.std.proofs.lemmas.Map.Text.{is_eq-slice_cmp}
use Rattle.cif_laws.proofs.orders.AtMost.{eq_is}
use Rattle.cif_laws.proofs.orders.Orders.{then_equal}
use Rattle.docker_laws.specs.Best.{better}
use Rattle.docker_laws.specs.Gathering.{counts_as, identity_of}
use Rattle.docker_laws.specs.LiveRows.{Link, is_of_group, link_in, train_in}
use Rattle.train_choice.specs.Known.{uid_day_cmp, AreIdentities, group_cmp, GroupLinks, AreDayLinks, HasOneMore}
use Rattle.train_choice.specs.Ranked.{is_better}
use Rattle.train_choice.proofs.BestSoFar.{best_stays, best_goes}

-- ---- identities

-- adding a correct identity to correct identities preserves their correctness
pub one_more_identity : (live : Table) (before after : BTreeMap (List ℕ × ℕ) (List ℕ)) (uid : List ℕ) (day : ℕ) (identity : List ℕ)
    → AreIdentities live before → Updates uid_day_cmp before after (uid, day) (Some identity)
    → ((rows : List Row) → AreRowsOf live rows → identity ≡ identity_of (train_in rows uid day)) → AreIdentities live after
one_more_identity live before after uid day identity are updates right = λ other_uid other_day other is rows each.
    (elim (is_eq (uid_day_cmp (uid, day) (other_uid, other_day))) as (λ b. is_eq (uid_day_cmp (uid, day) (other_uid, other_day)) ≡ b
    → cond b (Some identity) (get uid_day_cmp before (other_uid, other_day)) ≡ Some other → other ≡ identity_of (train_in rows other_uid other_day)) [
      | true ↦ λ at found.
          let parts = then_equal (bytes_cmp uid other_uid) (nat_cmp day other_day) (eq_is (uid_day_cmp (uid, day) (other_uid, other_day)) at) in
          let same : identity ≡ other = cc in
          sym same ∙ right rows each
          ∙ (λ i. identity_of (train_in rows (exact_bytes uid other_uid parts.0 i) (exact_unsigned day other_day parts.1 i)))
      | false ↦ λ at found. are other_uid other_day other found rows each
    ]) refl (sym (updates.0 (other_uid, other_day)) ∙ is)

-- ---- groups

-- groups that compare as equal are equal
exact_group : (a b : Group) → group_cmp a b ≡ Equal → a ≡ b
exact_group a b e =
    let p = then_equal (bytes_cmp a.base b.base) _ e in
    let q = then_equal (bytes_cmp a.associated b.associated) _ p.1 in
    let r = then_equal (bytes_cmp a.location b.location) (nat_cmp a.suffix b.suffix) q.1 in
    λ i. record {
      base = exact_bytes a.base b.base p.0 i;
      associated = exact_bytes a.associated b.associated q.0 i;
      location = exact_bytes a.location b.location r.0 i;
      suffix = exact_unsigned a.suffix b.suffix r.1 i;
    }

regrouped : (a b c d : Bool) → (a && (b && (c && d))) ≡ (a && b && c && d)
regrouped = search rules

-- the group of an association compares as equal to another group if and only if the association
-- belongs to that group
at_group : (key : AssociationKey) (group : Group) → is_eq (group_cmp (group_of key) group) ≡ is_of_group group key
at_group = search (rules, is_eq-slice_cmp, regrouped)

own_group : (key : AssociationKey) (group : Group) → is_of_group group key ≡ true → group_of key ≡ group
own_group key group is = exact_group (group_of key) group (eq_is (group_cmp (group_of key) group) (at_group key group ∙ is))

-- suppose that a map has the associations chosen at a place on a day. Then an association at this
-- place is the chosen association of its group if and only if the map has it for this group
pub counts_told : (live : Table) (place : List ℕ) (day : ℕ) (best : GroupLinks) (key : AssociationKey) (link : Link) (answer : Bool)
    → AreDayLinks live place day best → key.location ≡ place → Some link ≡ get group_cmp best (group_of key)
    → answer ≡ is_eq (association_key_cmp link.key key)
    → (rows : List Row) → AreRowsOf live rows → answer ≡ counts_as (link_in rows (group_of key) day) key
counts_told = search rules

-- suppose that a map has the associations chosen at a place on a day. If the map has an association
-- for a group at the place, the chosen association of the group has the same record
pub record_told : (live : Table) (place : List ℕ) (day : ℕ) (best : GroupLinks) (group : Group) (link : Link) (line : List ℕ)
    → AreDayLinks live place day best → group.location ≡ place → Some link ≡ get group_cmp best group → line ≡ link.line
    → (rows : List Row) → AreRowsOf live rows → Some line ≡ option_map (λ (l : Link). l.line) (link_in rows group day)
record_told = search rules

module _ (day : ℕ) (link : Link) where
  abbrev by_key : Link → Link → Ordering
  by_key = on (λ (l : Link). l.key) association_choice_cmp

  -- an association that doesn't run on the day leaves every group's best association unchanged
  pub not_running : (before : GroupLinks) → association_runs link.line day ≡ false → HasOneMore day before link before
  not_running = search rules

  -- an association that isn't better than its group's best association leaves every group's best
  -- association unchanged
  pub better_there : (before : GroupLinks) → is_better by_key link (get group_cmp before (group_of link.key)) ≡ false → HasOneMore day before link before
  better_there before is = λ group. by group (is_of_group group link.key) refl
    where
      whether : (found : Option Link) (b : Bool) → found ≡ better by_key found link → found ≡ cond b (better by_key found link) found
      whether found true same = same
      whether found false same = refl

      by : (group : Group) (b : Bool) → is_of_group group link.key ≡ b → get group_cmp before group
          ≡ cond (b && association_runs link.line day) (better by_key (get group_cmp before group) link) (get group_cmp before group)
      by group true own = whether (get group_cmp before group) (association_runs link.line day) (best_stays _ link _
          (subst (λ (g : Group). is_better by_key link (get group_cmp before g) ≡ false) (own_group link.key _ own) is))
      by group false other = refl

  -- an association that runs on the day, and is better than its group's best association, replaces
  -- this best association
  pub best_of_group : (before after : GroupLinks) → association_runs link.line day ≡ true
      → is_better by_key link (get group_cmp before (group_of link.key)) ≡ true → Updates group_cmp before after (group_of link.key) (Some link)
      → HasOneMore day before link after
  best_of_group = search (rules, at_group, best_goes, own_group)
