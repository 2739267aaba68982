-- Lemmas on a join in which the second state adds nothing to the first state.
use Rattle.cif_laws.proofs.Common.{◌≡◌, Bool, true, false, List, [], ◌∷◌, ◌++◌, map, length, refl, ap, sym, ◌∙◌, subst, inl, inr, Contains, arith, common_steps}
use Rattle.cif_laws.proofs.Common.{Option, ◌↔◌, IsTrue, ordering_reverse, Key, IsBelow, IsAtMost, FileStamp, LedgerItem, file_stamp_cmp, IsFloor, IsKept, Entry}
use Rattle.cif_laws.proofs.Common.{State, IsValid, IsGoodEntry, IsJoin, raise_horizon}
use Rattle.state_laws.specs.Staging.{IsToStage, IsStaged}
use Rattle.cif_laws.proofs.lists.Membership.{Contains-cons, Contains-map, member_of, nil-Contains}
use Rattle.cif_laws.proofs.orders.Orders.{file_stamp_total}
use Rattle.state_laws.proofs.joins.StagedEntry.{staging_joins}
use Rattle.state_laws.proofs.joins.StagedState.{join_with_staged}
use Rattle.docker_state.specs.Staging.{HasKeptItems, HasNoneToStage}
use Rattle.docker_state.proofs.StagingLemmas.{join_of_nothing_new}

-- a stamp that is below the floor doesn't satisfy `IsKept`
pub not_kept : (stamp floor : FileStamp) → IsBelow file_stamp_cmp stamp floor → ¬ IsAtMost file_stamp_cmp floor stamp
not_kept stamp floor below kept = kept (file_stamp_total.antisymm floor stamp ∙ ap ordering_reverse below)

-- if all files of a state are below the floor, none of its entries has to be staged
pub below_brings_none : (own other : State) → IsValid other → (floor : Option FileStamp)
    → ((item : LedgerItem) → Contains other.ledger item → ¬ IsKept floor item.stamp) → HasNoneToStage own floor other.entries
below_brings_none own other valid floor below key entry among to =
    let good : IsGoodEntry other.ledger (key, entry) = member_of (IsGoodEntry other.ledger) other.entries (key, entry) valid.entries.0 among in
    let item = Contains-map (λ (item : LedgerItem). item.stamp) other.ledger entry.stamp.file good.stamp.in_ledger in
    below item.0 item.1 (subst (IsKept floor) (sym item.2) to.kept)

-- if there are no rows, no row has to be staged
pub none_of_no_row : {A : Type 0} (meant : A → Key × Entry) (own : State) (floor : Option FileStamp) (rows : List A) → length rows ≡ 0
    → HasNoneToStage own floor (map meant rows)
none_of_no_row = grind (common_steps, arith, nil-Contains)

-- if neither the first row nor any row after it has to be staged, no row has to be staged
pub none_of_more : (own : State) (floor : Option FileStamp) (row : Key × Entry) (rows : List (Key × Entry)) → ¬ IsToStage own floor row.0 row.1
    → HasNoneToStage own floor rows → HasNoneToStage own floor (row ∷ rows)
none_of_more own floor row rows first others key entry among = elim (Contains-cons row rows (key, entry) among) [
  | inl same ↦ subst (λ (it : Key × Entry). ¬ IsToStage own floor it.0 it.1) same first
  | inr behind ↦ others key entry behind
]

-- the lemma `none_of_more` for rows of the code's type: if neither the first row nor any row after it has to be staged, no row has to be staged
pub none_of_rest : {A : Type 0} (meant : A → Key × Entry) (own : State) (floor : Option FileStamp) (rows behind : List A) (row : A) → rows ≡ row ∷ behind
    → ¬ IsToStage own floor (meant row).0 (meant row).1 → HasNoneToStage own floor (map meant behind) → HasNoneToStage own floor (map meant rows)
none_of_rest meant own floor rows behind row is first others =
    subst (λ xs. HasNoneToStage own floor (map meant xs)) (sym is) (none_of_more own floor (meant row) (map meant behind) first others)

-- if a test fails, and the test passes if and only if a property holds, the property doesn't hold
pub untold : {P : Type 0} (b : Bool) → b ≡ false → IsTrue b ↔ P → ¬ P
untold b fails tells holds = let bad : false ≡ true = sym fails ∙ tells.1 holds in cc

-- Suppose that a state has each item of another state, unless the item is below the floor, and that
-- no entry of the other state has to be staged. Then the join of the two states is the first state,
-- with the greater of the two horizons.
pub covered : (own other : State) → IsValid own → IsValid other → (floor : Option FileStamp) → IsFloor (own.ledger ++ other.ledger) floor
    → HasKeptItems own.ledger other.ledger floor → HasNoneToStage own floor other.entries → IsJoin own other (raise_horizon other.horizon own)
covered own other valid valid_too floor is_floor has none = staging_joins own _ floor _ own valid valid_too is_floor stages
    (join_with_staged _ other _ [] _ valid.entries.1 is_floor stages (join_of_nothing_new own valid _ floor is_floor has _ refl))
  where
    stages : IsStaged own floor other.entries []
    stages = record {
      ascending = tt;
      members = λ key entry. (λ among. absurd (nil-Contains (key, entry) among), λ told. absurd (none key entry told.0 told.1));
    }
