use Rattle.docker_desk.specs.declared.query.DockerKind.TheVariants as kind
use Rattle.docker_desk.proofs.ShowLemmas.{shown_docker}
use Rattle.docker_desk.proofs.showing.show_docker.Goals as goal

pub returns-in-Ordinary : goal.returns-in-Ordinary
returns-in-Ordinary c =
    rw c.in-Ordinary.is (shown_docker kind.Ordinary c.state-state.result.now _ _ _ _ c.state-state.ensures.state
    (c.docker_answer.ensures _ _ _ _ c.docker.ensures.ok c.docker.ensures.lapsed))

pub returns-in-Permanent : goal.returns-in-Permanent
returns-in-Permanent c =
    rw c.in-Permanent.is (shown_docker kind.Permanent c.state-state.result.now _ _ _ _ c.state-state.ensures.state
    (c.docker_answer-in-Permanent.ensures _ _ _ _ c.permanent_docker.ensures.ok c.permanent_docker.ensures.lapsed))

pub returns-in-Detailed : goal.returns-in-Detailed
returns-in-Detailed c =
    rw c.in-Detailed.is (shown_docker kind.Detailed c.state-state.result.now _ _ _ _ c.state-state.ensures.state
    (c.detailed_answer.ensures _ _ _ _ c.detailed_docker.ensures.ok c.detailed_docker.ensures.lapsed))

pub returns-in-PermanentDetailed : goal.returns-in-PermanentDetailed
returns-in-PermanentDetailed c =
    rw c.in-PermanentDetailed.is (shown_docker kind.PermanentDetailed c.state-state.result.now _ _ _ _ c.state-state.ensures.state
    (c.detailed_answer-in-PermanentDetailed.ensures _ _ _ _ c.permanent_detailed_docker.ensures.ok c.permanent_detailed_docker.ensures.lapsed))
