use Rattle.cif_laws.proofs.Common.{subst, All}
use Rattle.docker_state.specs.Timetables.{live_in}
use Rattle.docker_detail.specs.Finding.{IsLineFound}
use Rattle.docker_detail.specs.Known.{AtPlace}
use Rattle.docker_detail.proofs.InOrder.{found_in_order}
use Rattle.docker_detail.proofs.origins.with_origins.Goals as goal

pub returns : goal.returns
returns c = found_in_order _ _ _ _ _ _ c.by_train.ensures c.in_ok-detailed.ensures.lines
    (subst (λ (there : AtPlace). All (IsLineFound (live_in there.timetable) there.place) c.in_ok-detailed.detailed.items) c.at.ensures
    c.in_ok-detailed.ensures.found) c.in_order.ensures.same c.in_order.ensures.sorted
