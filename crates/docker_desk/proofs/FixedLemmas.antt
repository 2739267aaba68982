-- The known files determine states, dockers and lists.
use Rattle.cif_laws.proofs.Common.{◌≡◌, ℕ, List, length, subst, arith, rules, length-map, All-get_or, IsDockerText, IsDayRefused, lapse_table, State}
use Rattle.cif_laws.proofs.Common.{live_table, dks_2, HaveDistinctMoments, IsSummary, Table, IsPlainTable, IsOffice, Known, nothing, office_known}
use Rattle.cif_laws.proofs.Common.{AreOneKnowledge, HaveSameFiles, IsGoodKnown, IsPlacesText}
use Rattle.cif_laws.proofs.lists.ZipSteps.{zip_at}
use Rattle.docker_model.specs.run.Knowledge.{sets_of}
use Rattle.docker_laws.proofs.dockers.PrintedDocker.{printed_is_plain}
use Rattle.docker_laws.proofs.runs.GoodKnowledge.{good_in_run}
use Rattle.docker_laws.proofs.runs.KnownSets.{offices_are}
use Rattle.docker_laws.proofs.runs.RunEnd.{docker_of_files}
use Rattle.state_laws.proofs.states.OnePlainTable.{some_plain_table}
use Rattle.state_laws.proofs.states.PlainLive.{live_is_lapsed_plain}
use Rattle.state_laws.proofs.states.SummaryLaws.{summary_unique}
use Rattle.docker_office.specs.RunEnds.{EndsWith, PrintsAs}
use Rattle.docker_desk.specs.Answering.{answers_of, lines_of}
use Rattle.docker_desk.specs.Learning.{IsKnown}
use Rattle.docker_desk.specs.SessionViews.{Step}

-- two states are equal if both are the summary of the same files under the same horizon
pub one_state : (first second : Known) (one two : State) → IsKnown first one → IsKnown second two → AreOneKnowledge first second → one ≡ two
one_state first second one two left right same = summary_unique _ _ same.0 _ _ _ (subst (λ h. IsSummary first.files h one) same.1 left.is) right.is

-- suppose that two states know the same files. Then the dockers made from the two states are equal,
-- for each place and for each day that isn't refused under either state's horizon
pub one_docker : (first second : Known) (one two : State) → IsKnown first one → IsKnown second two → HaveSameFiles first.files second.files
    → (place : List ℕ) (day : ℕ) → ¬ IsDayRefused one.horizon day → ¬ IsDayRefused two.horizon day → (text other : List ℕ)
    → IsDockerText (live_table one) place day text → IsDockerText (live_table two) place day other → text ≡ other
one_docker first second one two left right same place day prints prints_too =
    docker_of_files dks_2 first second one two left.good right.good left.is right.is same place day
    (subst (λ h. ¬ IsDayRefused h day) left.is.horizon_is prints) (subst (λ h. ¬ IsDayRefused h day) right.is.horizon_is prints_too)

-- if no two known files have the same moment, each docker of the state is the docker of the plain
-- table
pub plain_dockers : (known : Known) (state : State) → IsKnown known state → HaveDistinctMoments known.files
    → (plain : Table) × (IsPlainTable known.files plain × PrintsAs state plain)
plain_dockers known state is distinct =
    let plain = some_plain_table _ distinct in (
      plain.0,
      search (rules, printed_is_plain, is.is.horizon_is),
    )

-- suppose that no two known files have the same moment. Then the state's list of timing points is
-- the list for the plain table without the rows that ended before the horizon
pub plain_places : (known : Known) (state : State) → IsKnown known state → HaveDistinctMoments known.files
    → (plain : Table) × IsPlainTable known.files plain
    × ((text : List ℕ) → IsPlacesText (live_table state) text → IsPlacesText (lapse_table known.horizon plain) text)
plain_places known state is distinct =
    let plain = some_plain_table _ distinct in search (rules, live_is_lapsed_plain, plain.1, is.is)

-- at the end of a run, the state of an office is the summary of what the office knows
pub office_knows : (known : Known) (state : State) → EndsWith known state → IsKnown known state
office_knows known state end =
    let sets = sets_of end.offices end.events end.exchange in
    let many = offices_are end.offices end.events end.exchange.replies in
    let low = end.there in
    let there : IsOffice sets end.office = omega (arith, many, low) in
    subst (λ k. IsKnown k state) end.knows
    (subst (IsKnown (office_known sets end.office)) end.has (record {
      good = All-get_or (IsGoodKnown dks_2) sets.offices end.office nothing there
          (good_in_run dks_2 end.offices end.events end.exchange.replies end.leaves.good end.leaves.run.replies).0;
      is = search (rules, zip_at);
    }))

-- in a list of steps, there are as many answers as lines
pub one_each : (steps : List Step) → length (answers_of steps) ≡ length (lines_of steps)
one_each = search (rules, length-map)
