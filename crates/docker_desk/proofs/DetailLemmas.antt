-- The known files determine the detailed dockers.
use Rattle.cif_laws.proofs.Common.{◌≡◌, ℕ, List, subst, rules, IsDetailedText, permanent_table, Known, HaveSameFiles, IsDayRefused, State, live_table}
use Rattle.cif_laws.proofs.Common.{HaveDistinctMoments, Table, IsPlainTable}
use Rattle.docker_laws.proofs.dockers.DetailedDocker.{detailed_is_plain, detailed_of_files, permanent_detailed_is_plain, permanent_detailed_of_files}
use Rattle.state_laws.proofs.states.OnePlainTable.{some_plain_table}
use Rattle.docker_desk.specs.Learning.{DetailsAs, IsKnown}

-- suppose that two states know the same files. Then the detailed dockers made from the two states
-- are equal, for each place and for each day that isn't refused under either state's horizon
pub one_detail : (first second : Known) (one two : State) → IsKnown first one → IsKnown second two → HaveSameFiles first.files second.files
    → (place : List ℕ) (day : ℕ) → ¬ IsDayRefused one.horizon day → ¬ IsDayRefused two.horizon day → (text other : List ℕ)
    → IsDetailedText (live_table one) place day text → IsDetailedText (live_table two) place day other → text ≡ other
one_detail first second one two left right same place day prints prints_too =
    detailed_of_files _ _ _ _ _ _ left.good.0 right.good.0 same left.good.1 right.good.1
    left.is right.is _ _ (subst (λ h. ¬ IsDayRefused h day) left.is.horizon_is prints) (subst (λ h. ¬ IsDayRefused h day) right.is.horizon_is prints_too)

-- suppose that two states know the same files. Then the permanent detailed dockers made from the two
-- states are equal, for each place and for each day that isn't refused under either state's horizon
pub one_permanent_detail : (first second : Known) (one two : State) → IsKnown first one → IsKnown second two → HaveSameFiles first.files second.files
    → (place : List ℕ) (day : ℕ) → ¬ IsDayRefused one.horizon day → ¬ IsDayRefused two.horizon day → (text other : List ℕ)
    → IsDetailedText (permanent_table (live_table one)) place day text → IsDetailedText (permanent_table (live_table two)) place day other → text ≡ other
one_permanent_detail first second one two left right same place day prints prints_too =
    permanent_detailed_of_files _ _ _ _ _ _ left.good.0 right.good.0 same left.good.1 right.good.1
    left.is right.is _ _ (subst (λ h. ¬ IsDayRefused h day) left.is.horizon_is prints) (subst (λ h. ¬ IsDayRefused h day) right.is.horizon_is prints_too)

-- if no two known files have the same moment, each detailed docker of the state is the detailed
-- docker of the plain table. The same is true of each permanent detailed docker
pub plain_detail : (known : Known) (state : State) → IsKnown known state → HaveDistinctMoments known.files
    → (plain : Table) × (IsPlainTable known.files plain × DetailsAs state plain)
plain_detail known state is distinct =
    let plain = some_plain_table _ distinct in (
      plain.0,
      search (rules, detailed_is_plain, permanent_detailed_is_plain, is.is.horizon_is),
    )
