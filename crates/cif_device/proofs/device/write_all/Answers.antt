-- Each write continues after the bytes that were written before.
use Rattle.std.proofs.Common.{rules}
use Rattle.cif_device.proofs.DeviceLemmas.{Takes-take, take-drop_all}
use Rattle.cif_device.proofs.device.write_all.Goals as goal

pub loop-done-preserved : goal.loop-done-preserved
loop-done-preserved g c = record {
  within = search rules;
  no_failure = search rules;
  written = Takes-take _ _ _ _ _ _ c.loop-done.invariant.written (rw take-drop_all at c.in_ok-done.ensures.moved);
}
