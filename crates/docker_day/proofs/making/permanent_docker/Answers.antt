use Rattle.cif_laws.proofs.Common.{subst, IfOk}
use Rattle.docker_state.specs.Timetables.{Timetable, live_in}
use Rattle.docker_day.specs.Dockers.{IsDockerOf}
use Rattle.docker_day.proofs.making.permanent_docker.Goals as goal

pub returns-clause-ok : goal.returns-clause-ok
returns-clause-ok c =
    subst (λ (t : Timetable). IfOk c.docker_in.result (IsDockerOf (live_in t) c.args.tiploc.now c.args.day)) c.permanent.ensures c.docker_in.ensures.ok
