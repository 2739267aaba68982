use Rattle.cif_laws.proofs.Common.{Some}
use Rattle.docker_desk.proofs.HistoryLemmas.{then_closed}
use Rattle.docker_desk.proofs.ReadFiles.{takes}
use Rattle.docker_desk.proofs.reading.take_file.Goals as goal

pub returns-clause-opens : goal.returns-clause-opens
returns-clause-opens g c = record {
  read = Some (record { held = g.D.File.Source.left c.in-Ok.file; left = g.D.File.Source.left c.take-taken.new.source });
  asked = then_closed _ _ _ _ _ _ c.in-Ok.ensures.asked c.close.ensures.asked;
  stops = c.take-taken.ensures.takes.no_further;
  ends = takes _ _ _ _ _ c.take-taken.ensures.takes.outcome c.take-taken.ensures.unchanged;
}
