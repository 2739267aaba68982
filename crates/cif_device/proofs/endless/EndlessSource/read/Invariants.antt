-- The source has returned the first `at` bytes of the buffer.
use Rattle.std.proofs.Common.{◌≡◌, ◌≤◌, length, take}
use Rattle.cif_device.specs.Device.{Goes}
use Rattle.cif_device.proofs.endless.EndlessSource.read.Given as goal

abbrev pub invariant-loop-at : goal.invariant-loop-at
invariant-loop-at l = record {
  within : l.at ≤ length l.into;
  length : length l.into ≡ length l.fn.into;
  goes : Goes l.fn.self (take l.at l.into) l.self;
}
