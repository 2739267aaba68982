use Rattle.cif_laws.proofs.Common.{ap, sym, Ok}
use Rattle.docker_desk.specs.Desk.{DeskView, EndsTaking}
use Rattle.docker_desk.specs.Reading.{StopsInFile}
use Rattle.docker_desk.proofs.HistoryLemmas.{opens_as}
use Rattle.docker_desk.proofs.desk.Desk.take.Goals as goal

pub returns-in-Ok-clause-opens : goal.returns-in-Ok-clause-opens
returns-in-Ok-clause-opens g c =
    opens_as c.args.name.now StopsInFile EndsTaking _ _ _ _ (Ok c.in-Ok.field-0) _ _
    (ap (λ (it : DeskView). it.state) c.self.view_is) (sym (ap (λ (it : DeskView). it.state) c.note_change.ensures))
    c.in-Ok.ensures.opens
