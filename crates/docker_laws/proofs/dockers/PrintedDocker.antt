-- If the files of a set have distinct moments, every docker printed from their summary is the
-- docker of their plain table. The summary may have any horizon with which the program doesn't
-- refuse the docker.
use Rattle.cif_laws.proofs.Common.{ℕ, ◌+◌, ◌≤◌, List, length, All, subst, ap, sym, ◌∙◌, arith, ◌↔◌, no_end_number, IsDay, IsFile, most_records, Table}
use Rattle.cif_laws.proofs.Common.{IsPlainTable, IsDayRefused, State, IsValid, live_table, lapse_state, IsSummary, IsDockerText, docker_text}
use Rattle.state_laws.proofs.states.TableLapsed.{live_lapsed}
use Rattle.docker_laws.proofs.dockers.FewMidnights.{bodies_few}
use Rattle.state_laws.proofs.states.GoodBodies.{good_bodies}
use Rattle.docker_laws.proofs.dockers.LapsedDocker.{lapsed_docker}
use Rattle.docker_laws.proofs.dockers.SameDocker.{HaveOneDocker}
use Rattle.docker_laws.proofs.dockers.TextsOfFiles.{StaysLapsed, IsOneText, text_is_plain}
use Rattle.state_laws.proofs.states.OneJoin.{docker_unique}

-- a horizon is at most 65535, the day number that stands for no end
pub day_bound : (horizon : ℕ) → IsDay horizon → horizon ≤ no_end_number
day_bound horizon day = omega arith

-- ---- lapsing leaves the dockers of a valid state unchanged

-- on each day from the third day after the horizon, a table has the same docker text before and
-- after its rows lapse
pub docker_lapses : (place : List ℕ) → StaysLapsed (λ live day text. IsDockerText live place day text)
docker_lapses place horizon live day text is_day good from =
    (lapsed_docker horizon (day_bound horizon is_day) live (bodies_few live good) place day from).text text

-- on each day from the third day after the horizon, a state has the same docker before and after
-- its entries lapse
pub state_docker : (horizon : ℕ) (state : State) (place : List ℕ) (day : ℕ) → IsDay horizon → IsValid state → horizon + 3 ≤ day
    → HaveOneDocker (live_table state) (live_table (lapse_state horizon state)) place day
state_docker horizon state place day is_day valid from =
    subst (λ table. HaveOneDocker (live_table state) table place day) (sym (live_lapsed horizon state))
    (lapsed_docker horizon (day_bound horizon is_day) (live_table state) (bodies_few (live_table state) (good_bodies state valid)) place day from)

-- ---- a docker printed from a summary is the docker of the plain table

-- a docker printed from a summary is the docker of the plain table
pub printed_is_plain : (files : List (List (List ℕ))) (horizon : ℕ) (state : State) (table : Table) (place : List ℕ) (day : ℕ) (text : List ℕ)
    → All IsFile files → All (λ file. length file ≤ most_records) files → IsDay horizon → IsSummary files horizon state → IsPlainTable files table
    → ¬ IsDayRefused horizon day
    → IsDockerText (live_table state) place day text ↔ IsDockerText table place day text
printed_is_plain files horizon state table place day text each few = text_is_plain _ (docker_lapses place) _ _ _ _ _ _ (each, few)

-- a table has at most one docker text for a place and a day
pub one_text : (place : List ℕ) → IsOneText (λ live day text. IsDockerText live place day text)
one_text place live day text other is that = is.2 ∙ ap (docker_text live place day) (docker_unique _ is.0 that.0 is.1 that.1) ∙ sym that.2
