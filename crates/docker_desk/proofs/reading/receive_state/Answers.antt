use Rattle.cif_laws.proofs.Common.{Some}
use Rattle.docker_desk.proofs.HistoryLemmas.{then_closed}
use Rattle.docker_desk.proofs.ReadFiles.{receives}
use Rattle.docker_desk.proofs.reading.receive_state.Goals as goal

pub returns-clause-opens : goal.returns-clause-opens
returns-clause-opens g c = record {
  read = Some (record { held = g.D.File.Source.left c.in-Ok.file; left = g.D.File.Source.left c.receive-received.new.source });
  asked = then_closed _ _ _ _ _ _ c.in-Ok.ensures.asked c.close.ensures.asked;
  stops = c.receive-received.ensures.reads.few;
  ends = receives _ _ _ _ _ c.receive-received.ensures.reads.outcome c.receive-received.ensures.unchanged;
}
