-- Lemmas on offering the entries of a valid state for staging, one by one and in their order.
use Rattle.std.proofs.Common.{◌≡◌, List, [], ◌∷◌, ◌++◌, ◌<◌, length, sym, subst, ◌⊎◌, inl, inr, arith}
use Rattle.std.specs.Prelude.{Contains}
use Rattle.std.specs.List.{AllByRecursion}
use Rattle.std.proofs.lemmas.List.Elements.{Contains-push_cases, recursion_from_All}
use Rattle.std.specs.declared.cmp.Ordering.TheVariants.{Less}
use Rattle.docker_model.specs.file.Change.{Key}
use Rattle.docker_model.specs.state.Op.{Entry, key_cmp}
use Rattle.docker_model.specs.state.Stamp.{IsFloor}
use Rattle.docker_model.specs.state.State.{State, IsGoodEntry, AreAscending, AreEntries}
use Rattle.docker_state.specs.Staging.{Staging, IsAboveStaged, IsOffered}

-- Says that these entries can be offered for staging in their order. Each is a good entry for the received ledger items, their keys ascend, and all keys are
-- above the staged keys.
pub record CanBeOffered (staging : Staging) (entries : List (Key × Entry)) : Type 0 where
  pub good : AllByRecursion (IsGoodEntry staging.items) entries
  pub above : AllByRecursion (λ (entry : Key × Entry). IsAboveStaged staging.staged entry.0) entries
  pub ascending : AreAscending entries

-- if a key is above the staged keys and above the key of an offered entry, it is above all staged keys once that entry is staged
above_both : (staged : List (Key × Entry)) (entry next : Key × Entry) → IsAboveStaged staged next.0 → key_cmp entry.0 next.0 ≡ Less
    → IsAboveStaged (staged ++ entry ∷ []) next.0
above_both staged entry next above below other among = by (Contains-push_cases staged entry other among)
  where
    by : Contains staged other ⊎ (entry ≡ other) → key_cmp other.0 next.0 ≡ Less
    by (inl there) = above other there
    by (inr last) = subst (λ (e : Key × Entry). key_cmp e.0 next.0 ≡ Less) last below

all_above : (staged : List (Key × Entry)) (entry : Key × Entry) (rest : List (Key × Entry))
    → AllByRecursion (λ (next : Key × Entry). key_cmp entry.0 next.0 ≡ Less) rest
    → AllByRecursion (λ (next : Key × Entry). IsAboveStaged staged next.0) rest
    → AllByRecursion (λ (next : Key × Entry). IsAboveStaged (staged ++ entry ∷ []) next.0) rest
all_above staged entry [] below above = tt
all_above staged entry (next ∷ rest) below above = (above_both staged entry next above.0 below.0, all_above staged entry rest below.1 above.1)

-- after the first entry is offered for staging, the other entries can be offered
pub rest_offered : (own : State) (staging after : Staging) (entry : Key × Entry) (rest : List (Key × Entry)) → CanBeOffered staging (entry ∷ rest)
    → IsOffered own staging entry.0 entry.1 after → CanBeOffered after rest
rest_offered own staging after entry rest can (inl to) =
    subst (λ (s : Staging). CanBeOffered s rest) (sym to.1)
    (record { good = can.good.1; above = all_above staging.staged entry rest can.ascending.0 can.above.1; ascending = can.ascending.1 })
rest_offered own staging after entry rest can (inr out) =
    subst (λ (s : Staging). CanBeOffered s rest) (sym out.1) (record { good = can.good.1; above = can.above.1; ascending = can.ascending.1 })

-- after an entry is offered for staging, the floor is still the floor of both ledgers together
pub same_floor : (own : State) (staging after : Staging) (key : Key) (entry : Entry) → IsFloor (own.ledger ++ staging.items) staging.floor
    → IsOffered own staging key entry after → IsFloor (own.ledger ++ after.items) after.floor
same_floor own staging after key entry floor (inl to) = subst (λ (s : Staging). IsFloor (own.ledger ++ s.items) s.floor) (sym to.1) floor
same_floor own staging after key entry floor (inr out) = subst (λ (s : Staging). IsFloor (own.ledger ++ s.items) s.floor) (sym out.1) floor

none_staged : (entries : List (Key × Entry)) → AllByRecursion (λ (entry : Key × Entry). IsAboveStaged [] entry.0) entries
none_staged [] = tt
none_staged (entry ∷ rest) = (λ other among. absurd (let below : among.0 < length {A = Key × Entry} [] = among.1 in omega arith), none_staged rest)

-- if nothing is staged, all entries of a valid state can be offered for staging
pub all_offered : (staging : Staging) (entries : List (Key × Entry)) → staging.staged ≡ [] → AreEntries staging.items entries → CanBeOffered staging entries
all_offered staging entries none are = record {
  good = recursion_from_All (IsGoodEntry staging.items) entries are.0;
  above = subst (λ (staged : List (Key × Entry)). AllByRecursion (λ (entry : Key × Entry). IsAboveStaged staged entry.0) entries) (sym none)
      (none_staged entries);
  ascending = are.1;
}
