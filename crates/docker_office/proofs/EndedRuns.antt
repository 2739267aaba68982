-- What offices know and print at the end of their runs.
use Rattle.std.proofs.Common.{◌≡◌, ℕ, List, subst, rules}
use Rattle.docker_model.specs.state.State.{State, live_table}
use Rattle.docker_model.specs.state.StateText.{dks_2}
use Rattle.docker_model.specs.state.Table.{Table, IsPlainTable}
use Rattle.docker_model.specs.state.Lapse.{IsDayRefused}
use Rattle.docker_model.specs.docker.DockerText.{IsDockerText}
use Rattle.docker_model.specs.run.Run.{Known, IsOffice}
use Rattle.docker_model.specs.run.Knowledge.{AreOneKnowledge, HaveSameFiles, office_state, sets_of}
use Rattle.docker_laws.proofs.runs.KnownSets.{offices_are}
use Rattle.docker_laws.proofs.runs.RunEnd.{same_state, same_docker, plain_docker}
use Rattle.docker_office.specs.RunEnds.{EndsWith, PrintsAs, known_at_end}

-- the office that `EndsWith` describes is one of the run's offices
is_there : (known : Known) (state : State) → (end : EndsWith known state) → IsOffice (sets_of end.offices end.events end.exchange) end.office
is_there = search (rules, offices_are)

-- suppose that an office has the knowledge `known` and the state `state` at the end of its run. If
-- a property is true of the office's knowledge and state at the end of the run, it is true of
-- `known` and `state`
at_end : (P : Known → State → Type 0) (known : Known) (state : State) → (end : EndsWith known state)
    → P (known_at_end end.offices end.events end.exchange end.office) (office_state end.exchange.states end.office) → P known state
at_end P known state end is = subst (P known) end.has (subst (λ k. P k (office_state end.exchange.states end.office)) end.knows is)

-- two offices that know the same files and the same horizon have equal states
pub one_state : (first second : Known) (one two : State) → EndsWith first one → EndsWith second two → AreOneKnowledge first second → one ≡ two
one_state first second one two left right same =
    at_end (λ f o. AreOneKnowledge f second → o ≡ two) first one left
    (at_end (λ s t. AreOneKnowledge (known_at_end left.offices left.events left.exchange left.office) s
    → office_state left.exchange.states left.office ≡ t) second two right
    (same_state dks_2 left.offices right.offices left.events right.events left.exchange right.exchange left.leaves.run right.leaves.run left.office
    right.office (is_there first one left) (is_there second two right))) same

-- says that the dockers made from these two states are equal, for each place and each day that
-- isn't refused under either state's horizon
abbrev PrintOne : State → State → Type 0
PrintOne one two =
    (place : List ℕ) (day : ℕ) → ¬ IsDayRefused one.horizon day → ¬ IsDayRefused two.horizon day → (text other : List ℕ)
    → IsDockerText (live_table one) place day text → IsDockerText (live_table two) place day other → text ≡ other

-- two offices that know the same files print the same dockers for each day that neither office
-- refuses
pub one_docker : (first second : Known) (one two : State) → EndsWith first one → EndsWith second two → HaveSameFiles first.files second.files
    → PrintOne one two
one_docker first second one two left right same =
    at_end (λ f o. HaveSameFiles f.files second.files → PrintOne o two) first one left
    (at_end (λ s t. HaveSameFiles (known_at_end left.offices left.events left.exchange left.office).files s.files
    → PrintOne (office_state left.exchange.states left.office) t) second two right
    (same_docker dks_2 left.offices right.offices left.events right.events left.exchange right.exchange left.leaves.run right.leaves.run left.office
    right.office (is_there first one left) (is_there second two right) left.leaves.good right.leaves.good)) same

-- if there is a plain table of the files that an office knows, the office prints the dockers of
-- this table
pub plain_prints : (known : Known) (state : State) → EndsWith known state → (plain : Table) → IsPlainTable known.files plain → PrintsAs state plain
plain_prints known state end plain is =
    at_end (λ k s. IsPlainTable k.files plain → PrintsAs s plain) known state end
    (λ of. plain_docker dks_2 end.offices end.events end.exchange end.leaves.run end.leaves.good end.office (is_there known state end) plain of) is
