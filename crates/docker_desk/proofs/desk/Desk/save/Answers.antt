use Rattle.cif_laws.proofs.Common.{ap}
use Rattle.docker_desk.specs.Desk.{DeskView}
use Rattle.docker_desk.proofs.HistoryLemmas.{saved_then}
use Rattle.docker_desk.proofs.desk.Desk.save.Goals as goal

pub returns-in-Ok-clause-stores : goal.returns-in-Ok-clause-stores
returns-in-Ok-clause-stores g c = saved_then _ _ _ _ _ _ _ _ c.in-Ok.ensures.ends c.look.ensures.asked (ap (λ (it : DeskView). it.state) c.self.view_is)
