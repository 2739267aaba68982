use Rattle.std.proofs.Common.{ℕ, List, ◌∙◌, subst, IfOk}
use Rattle.std.proofs.lemmas.Result.{IfOk-weaker}
use Rattle.docker_model.specs.state.State.{State, live_table}
use Rattle.docker_day.specs.DockerValue.{Docker}
use Rattle.docker_day.specs.Dockers.{IsDockerOf}
use Rattle.docker_excerpt.specs.Values.{StandsAt}
use Rattle.docker_state.specs.Timetables.{live_in}
use Rattle.docker_office.proofs.excerpt_docker.docker_of.Goals as goal

-- a docker of the part, for the place and the day, is a docker of the state
docker_of_state : (place : List ℕ) (day : ℕ) (state part : State) → StandsAt place day state part → (docker : Docker)
    → IsDockerOf (live_table part) place day docker → IsDockerOf (live_table state) place day docker
docker_of_state place day state part stands docker made = record {
  place_is = made.place_is;
  day_is = made.day_is;
  described = made.described ∙ stands.described;
  list = stands.list docker.lines made.list;
}

pub returns-clause-ok : goal.returns-clause-ok
returns-clause-ok c =
    let it = c.args.excerpt.now in
    let timetable = c.timetable.result in
    IfOk-weaker c.docker_in.result _ _ (docker_of_state _ _ _ _ c.timetable.ensures.stands) (subst (λ permanent. IfOk c.docker_in.result
    (IsDockerOf (live_in (record { state = timetable.state; permanent = permanent })) it.place it.day)) c.timetable.ensures.all
    (subst (λ place. IfOk c.docker_in.result (IsDockerOf (live_in timetable) place it.day)) c.place.ensures
    (subst (λ day. IfOk c.docker_in.result (IsDockerOf (live_in timetable) c.place.result.now day)) c.day.ensures c.docker_in.ensures.ok)))
