use Rattle.cif_laws.proofs.Common.{rules}
use Rattle.docker_cmd.specs.FaultLine.{fault_line}
use Rattle.docker_host.specs.FaultSink.{faults_view}
use Rattle.docker_desk.specs.Serving.{unsaved_text}
use Rattle.docker_desk.proofs.ServeLemmas.{tells_both, tells_first}
use Rattle.docker_desk.proofs.ending.tell_failure.Goals as goal

pub returns-in-Ok-clause-tells : goal.returns-in-Ok-clause-tells
returns-in-Ok-clause-tells g c = tells_both _ _ _ _ _ _ _
    (search rules) c.unsaved_line-behind.ensures c.in-Ok.ensures.no_failure c.in-Ok.ensures.whole c.tell_text.ensures

pub returns-in-Err-clause-tells : goal.returns-in-Err-clause-tells
returns-in-Err-clause-tells g c =
    tells_first (fault_line c.args.fault.now) (unsaved_text c.args.unsaved) c.as_slice.result.now
    (faults_view (g.L.Sink.taken c.args.faults.now) (g.L.Sink.failures c.args.faults.now))
    (faults_view (g.L.Sink.taken c.write_all.new.sink) (g.L.Sink.failures c.write_all.new.sink))
    (search rules) c.in-Err.ensures.counted c.in-Err.ensures.part
