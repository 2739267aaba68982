-- Each write continues after the bytes that were written before.
use Rattle.std.proofs.Common.{rules, arith}
use Rattle.cif_device.proofs.DeviceLemmas.{take-drop_all}
use Rattle.docker_host.proofs.StreamsLemmas.{part_fails, whole_all, whole_more, writes_none}
use Rattle.docker_host.proofs.streams.Streams.write_all.Goals as goal

pub loop-done-init : goal.loop-done-init
loop-done-init g c = record { within = omega arith; so_far = writes_none c.args.self.now }

pub write-requires-clause-failures : goal.write-requires-clause-failures
write-requires-clause-failures g c =
    let same = c.loop-done.invariant.so_far.failures in let few = c.requires in omega (arith, same, few)

pub loop-done-preserved : goal.loop-done-preserved
loop-done-preserved g c = record {
  within = search rules;
  so_far = whole_more _ _ _ _ _ _ c.loop-done.invariant.so_far (rw take-drop_all at c.in-Ok.ensures.wrote) c.in-Ok.ensures.no_failure;
}

pub returns-in-Err : goal.returns-in-Err
returns-in-Err g c = part_fails _ _ _ _ _ c.loop-done-test.true c.loop-done.invariant.so_far c.in-Err.ensures.failed

pub returns : goal.returns
returns g c = whole_all _ _ _ _ c.loop-done.invariant.within c.loop-done-test.false c.loop-done.invariant.so_far
