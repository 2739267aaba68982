use Rattle.docker_day.proofs.Gathered.{docker_made}
use Rattle.docker_day.proofs.making.docker_in.Goals as goal

pub returns-in-Ok-clause-ok : goal.returns-in-Ok-clause-ok
returns-in-Ok-clause-ok c =
    let good = c.description-description.ensures.good in
    docker_made _ _ _ _ _ _ _ _ _ c.of.ensures c.description-description.ensures.text
    good.bodies good.are c.new-lines.ensures.items c.in-Ok.ensures c.in_order.ensures.same c.in_order.ensures.sorted
