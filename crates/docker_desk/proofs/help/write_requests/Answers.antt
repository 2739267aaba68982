use Rattle.cif_laws.proofs.Common.{ap}
use Rattle.docker_host.proofs.StreamsLemmas.{writes_none}
use Rattle.docker_desk.specs.Help.{request_line}
use Rattle.docker_desk.proofs.HelpLemmas.{part_at, whole_at, whole_end}
use Rattle.docker_desk.proofs.help.write_requests.Goals as goal

pub loop-verb-init : goal.loop-verb-init
loop-verb-init g c = record { so_far = writes_none c.args.streams.now }

pub loop-verb-preserved : goal.loop-verb-preserved
loop-verb-preserved g c = record {
  so_far = whole_at _ _ _ _ _ _ _ _ c.loop-verb-test.true (ap request_line c.row.ensures) c.loop-verb.invariant.so_far c.in-Ok.ensures;
}

pub returns-in-Err : goal.returns-in-Err
returns-in-Err g c = part_at _ _ _ _ _ _ _ _ c.loop-verb-test.true (ap request_line c.row.ensures) c.loop-verb.invariant.so_far c.in-Err.ensures

pub returns : goal.returns
returns g c = whole_end _ _ _ _ _ c.loop-verb-test.false c.loop-verb.invariant.so_far
