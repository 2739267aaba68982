-- The known files determine the dockers without the short-term plan.
use Rattle.cif_laws.proofs.Common.{◌≡◌, ℕ, List, subst, rules, IsDockerText, permanent_table, Known, HaveSameFiles, IsDayRefused, State, live_table}
use Rattle.cif_laws.proofs.Common.{HaveDistinctMoments, Table, IsPlainTable}
use Rattle.docker_laws.proofs.dockers.PermanentDocker.{permanent_is_plain, permanent_of_files}
use Rattle.state_laws.proofs.states.OnePlainTable.{some_plain_table}
use Rattle.docker_desk.specs.Learning.{IsKnown, KeepsAs}

-- suppose that two states know the same files. Then the permanent dockers made from the two states
-- are equal, for each place and for each day that isn't refused under either state's horizon
pub one_permanent : (first second : Known) (one two : State) → IsKnown first one → IsKnown second two → HaveSameFiles first.files second.files
    → (place : List ℕ) (day : ℕ) → ¬ IsDayRefused one.horizon day → ¬ IsDayRefused two.horizon day → (text other : List ℕ)
    → IsDockerText (permanent_table (live_table one)) place day text → IsDockerText (permanent_table (live_table two)) place day other → text ≡ other
one_permanent first second one two left right same place day prints prints_too =
    permanent_of_files _ _ _ _ _ _ left.good.0 right.good.0 same left.good.1 right.good.1
    left.is right.is _ _ (subst (λ h. ¬ IsDayRefused h day) left.is.horizon_is prints) (subst (λ h. ¬ IsDayRefused h day) right.is.horizon_is prints_too)

-- if no two known files have the same moment, each permanent docker of the state is the permanent
-- docker of the plain table
pub plain_permanent : (known : Known) (state : State) → IsKnown known state → HaveDistinctMoments known.files
    → (plain : Table) × (IsPlainTable known.files plain × KeepsAs state plain)
plain_permanent known state is distinct =
    let plain = some_plain_table _ distinct in (
      plain.0,
      search (rules, permanent_is_plain, is.is.horizon_is),
    )
