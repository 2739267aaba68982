use Rattle.docker_detail.proofs.InOrder.{detailed_made}
use Rattle.docker_detail.proofs.making.with_lines.Goals as goal

pub returns : goal.returns
returns c = λ place day made.
    let good = c.tiploc-body.ensures.good in
    detailed_made _ _ _ _ _ _ _ _ _ _ _ good.are c.place-place.ensures c.day-day.ensures c.description-description.ensures
    c.into_lines.ensures c.in_ok-lines.ensures c.of.ensures made
