-- When one more entry is offered for staging, it is staged or left out. The first lemmas are about
-- the entry that a state has at a key.
use Rattle.cif_laws.proofs.Common.{◌≡◌, List, [], ◌∷◌, ◌++◌, refl, ap, sym, ◌∙◌, subst, inl, inr, Some, None, Contains, arith, rules, Option, ◌↔◌}
use Rattle.cif_laws.proofs.Common.{option_and_then, Less, Contains-append_left, Contains-append_right, Contains-append_cases, Key, IsBelow, FileStamp, IsFloor}
use Rattle.cif_laws.proofs.Common.{IsKept, Entry, entry_cmp, key_cmp, State, AreAscending, IsValid, IsJoin, raise_horizon, entry_at}
use Rattle.state_laws.specs.LawTerms.{without_horizon}
use Rattle.state_laws.specs.Staging.{IsGreaterThan, IsToStage, IsStaged, IsCommit}
use Rattle.cif_laws.proofs.lists.BoolsAndOptions.{none_some}
use Rattle.cif_laws.proofs.lists.Membership.{nil-Contains, Contains-single}
use Rattle.cif_laws.proofs.orders.Ascending.{irreflexive, ascending_of}
use Rattle.cif_laws.proofs.orders.Orders.{entry_total}
use Rattle.state_laws.proofs.states.PlainTable.{Keyed, find_in, one_per_key}
use Rattle.state_laws.proofs.joins.JoinValid.{join_is_valid}
use Rattle.state_laws.proofs.joins.RaisedHorizon.{join_then_set, none_to_lapse}
use Rattle.state_laws.proofs.states.OneJoin.{floor_unique}
use Rattle.cif_laws.proofs.lists.Later.{later_append}
use Rattle.state_laws.proofs.joins.StagedJoin.{commit_is_join}

-- ---- `entry_at` returns the entry that a state has at a key

Some_is : {A : Type 0} (a b : A) → Some a ≡ Some b → a ≡ b
Some_is a b h = cc

-- `entry_at` is `Some entry` for a key if and only if the list of the state's entries contains the
-- key with this entry
pub entry_at_iff : (state : State) → AreAscending state.entries → (key : Key) (entry : Entry) → (entry_at state key ≡ Some entry) ↔ Contains state.entries
    (key, entry)
entry_at_iff state up key entry = elim (find_in _ _) [
  | inl (pair, found, here) ↦
      let at : entry_at state key ≡ Some pair.1 = ap (option_and_then (λ (e : Keyed). Some e.1)) found in (
        λ is. subst (λ e. Contains state.entries (key, e)) (Some_is _ _ (sym at ∙ is)) here,
        λ among. at ∙ ap Some (one_per_key _ up _ _ _ here among),
      )
  | inr (missing, none) ↦
      let at : entry_at state key ≡ None = ap (option_and_then (λ (e : Keyed). Some e.1)) missing in (
        λ is. none_some _ (sym at ∙ is),
        λ among. absurd (none entry among),
      )
]

-- an offered entry is to be staged if and only if it isn't below the floor, and the state has no
-- equal or greater entry for the same key
pub to_stage_by_get : (own : State) → AreAscending own.entries → (floor : Option FileStamp) (key : Key) (entry : Entry)
    → IsToStage own floor key entry ↔ (IsKept floor entry.stamp.file × IsGreaterThan (entry_at own key) entry)
to_stage_by_get own up floor key entry = by (entry_at own key) refl
  where
    by : (mine : Option Entry) → entry_at own key ≡ mine → IsToStage own floor key entry ↔ (IsKept floor entry.stamp.file × IsGreaterThan mine entry)
    by None h = (
      λ to. (to.kept, tt),
      λ told. record { kept = told.0; greater = λ other among. none_some other (sym h ∙ (entry_at_iff own up key other).1 among) },
    )
    by (Some mine) h = (
      λ to. (to.kept, to.greater mine ((entry_at_iff own up key mine).0 h)),
      λ told. record {
        kept = told.0;
        greater = λ other among. subst (λ e. IsBelow entry_cmp e entry) (Some_is mine other (sym h ∙ (entry_at_iff own up key other).1 among)) told.1;
      },
    )

-- ---- entries are staged one by one

-- as long as no entry has been offered for staging, no entry is staged
pub nothing_staged : (own : State) (floor : Option FileStamp) → IsStaged own floor [] []
nothing_staged = search (rules, nil-Contains)

module _ (own : State) (floor : Option FileStamp) (offered staged : List (Key × Entry)) (key : Key) (entry : Entry)
    (stages : IsStaged own floor offered staged) where
  -- if the next offered entry is to be staged, it is appended to the staged entries
  pub one_staged_more : ((other : Key × Entry) → Contains staged other → key_cmp other.0 key ≡ Less) → IsToStage own floor key entry
      → IsStaged own floor (offered ++ (key, entry) ∷ []) (staged ++ (key, entry) ∷ [])
  one_staged_more above to = record {
    ascending = search (rules, ascending_of, later_append);
    members = λ k e. (
      λ among. elim (Contains-append_cases staged ((key, entry) ∷ []) (k, e) among) [
        | inl here ↦ let told = (stages.members k e).0 here in (Contains-append_left offered ((key, entry) ∷ []) (k, e) told.0, told.1)
        | inr here ↦ (
          Contains-append_right offered ((key, entry) ∷ []) (k, e) here,
          subst (λ (v : Key × Entry). IsToStage own floor v.0 v.1) (Contains-single _ _ here) to,
        )
      ],
      λ told. elim (Contains-append_cases offered ((key, entry) ∷ []) (k, e) told.0) [
        | inl here ↦ Contains-append_left staged ((key, entry) ∷ []) (k, e) ((stages.members k e).1 (here, told.1))
        | inr here ↦ Contains-append_right staged ((key, entry) ∷ []) (k, e) here
      ],
    );
  }

  -- if the next offered entry isn't to be staged, the staged entries are unchanged
  pub one_left_out : ¬ IsToStage own floor key entry → IsStaged own floor (offered ++ (key, entry) ∷ []) staged
  one_left_out out = record {
    ascending = stages.ascending;
    members = λ k e. (
      λ among. let told = (stages.members k e).0 among in (Contains-append_left offered ((key, entry) ∷ []) (k, e) told.0, told.1),
      λ told. elim (Contains-append_cases offered ((key, entry) ∷ []) (k, e) told.0) [
        | inl here ↦ (stages.members k e).1 (here, told.1)
        | inr here ↦ absurd (out (subst (λ (v : Key × Entry). IsToStage own floor v.0 v.1) (sym (Contains-single _ _ here)) told.1))
      ],
    );
  }

-- ---- after all entries are offered, the commit makes the join

-- suppose that all entries of a received state are offered for staging to the office whose state is
-- `own`, and the staged entries are committed. The result is the join of `own` with the received
-- state without its horizon
pub staging_joins_before : (own received : State) (floor : Option FileStamp) (staged : List (Key × Entry)) (after : State) → IsValid own → IsValid received
    → IsFloor (own.ledger ++ received.ledger) floor → IsStaged own floor received.entries staged → IsCommit own received.ledger staged after
    → IsJoin own (without_horizon received) after
staging_joins_before own received floor staged after valid valid_too is_floor stages commit =
    let floors : floor ≡ commit.floor = floor_unique (own.ledger ++ received.ledger) _ (λ item. (λ x. x, λ x. x)) floor _ is_floor commit.is_floor in
    commit_is_join own _ valid valid_too staged _ commit (subst (λ f. IsStaged own f received.entries staged) floors stages)

-- suppose that all entries of a received state are offered for staging to the office whose state is
-- `own`. Then the staged entries are committed, and the received horizon is set. The result is the
-- join of `own` with the received state
pub staging_joins : (own received : State) (floor : Option FileStamp) (staged : List (Key × Entry)) (after : State) → IsValid own → IsValid received
    → IsFloor (own.ledger ++ received.ledger) floor → IsStaged own floor received.entries staged → IsCommit own received.ledger staged after
    → IsJoin own received (raise_horizon received.horizon after)
staging_joins = search (rules, join_then_set, staging_joins_before)

-- the state after a commit is valid
pub commit_is_valid : (own received : State) (floor : Option FileStamp) (staged : List (Key × Entry)) (after : State) → IsValid own → IsValid received
    → IsFloor (own.ledger ++ received.ledger) floor → IsStaged own floor received.entries staged → IsCommit own received.ledger staged after → IsValid after
commit_is_valid own received floor staged after valid valid_too is_floor stages commit = join_is_valid _ _ _ valid without
    (staging_joins_before _ _ _ _ _ valid valid_too is_floor stages commit)
  where
    without : IsValid (without_horizon received)
    without = record { horizon = omega arith; ledger = valid_too.ledger; entries = valid_too.entries; have_lapsed = none_to_lapse _ }

-- if all entries of a state are offered for staging to an office that has this state, no entry is
-- staged
pub own_stages_nothing : (own : State) (floor : Option FileStamp) → IsStaged own floor own.entries []
own_stages_nothing own floor = record {
  ascending = tt;
  members = λ key entry. (λ among. absurd (nil-Contains (key, entry) among), λ told. absurd (irreflexive entry_total entry (told.1.greater entry told.0)));
}
