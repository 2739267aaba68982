use Rattle.cif_laws.proofs.Common.{sym, subst, IfOk, IfOk-weaker}
use Rattle.docker_state.specs.Timetables.{Timetable, live_in}
use Rattle.docker_day.specs.Dockers.{IsDockerOf}
use Rattle.docker_detail.specs.DetailedValue.{IsDetailedOf}
use Rattle.docker_detail.proofs.making.permanent_detailed_docker.Goals as goal

pub returns-in-Ok-clause-ok : goal.returns-in-Ok-clause-ok
returns-in-Ok-clause-ok c =
    subst (λ (t : Timetable). IfOk c.detail.result (IsDetailedOf (live_in t) c.args.tiploc.now c.args.day)) c.permanent.ensures
    (IfOk-weaker c.detail.result _ (IsDetailedOf (live_in c.permanent.result) c.args.tiploc.now c.args.day)
    (λ detailed told. told c.args.tiploc.now c.args.day
    (subst (λ (t : Timetable). IsDockerOf (live_in t) c.args.tiploc.now c.args.day c.in-Ok.docker) (sym c.permanent.ensures) c.in-Ok.ensures.ok))
    c.detail.ensures.ok)
