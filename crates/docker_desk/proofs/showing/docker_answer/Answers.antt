use Rattle.cif_laws.proofs.Common.{subst, IfOk}
use Rattle.docker_day.specs.Dockers.{IsDockerOf}
use Rattle.docker_desk.proofs.ShowLemmas.{answers_on}
use Rattle.docker_desk.proofs.showing.docker_answer.Goals as goal

pub returns-in-Ok : goal.returns-in-Ok
returns-in-Ok c = λ live place day horizon made lapsed. answers_on _ _ _ _ _ _ _
    (λ refused. let bad = lapsed.1 refused in let is = c.in-Ok.is in let never : ⊥ = cc in never)
    (c.write_docker-written.ensures.text live place day (subst (λ it. IfOk it (IsDockerOf live place day)) c.in-Ok.is made))
    c.new-page.ensures.text c.write_docker-written.ensures.whole c.answer_on.ensures.done c.answer_on.ensures.refused
