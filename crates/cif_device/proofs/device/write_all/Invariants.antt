-- The sink has taken the first `done` bytes of the piece.
use Rattle.std.proofs.Common.{◌≡◌, ◌-◌, ◌≤◌, length, take}
use Rattle.cif_device.specs.Device.{Takes}
use Rattle.cif_device.proofs.device.write_all.Given as goal

abbrev pub invariant-loop-done : goal.invariant-loop-done
invariant-loop-done g l = record {
  within : l.done ≤ length l.piece;
  no_failure : g.K.Sink.failures l.sink ≡ g.K.Sink.failures l.fn.sink;
  written : Takes (g.K.Sink.taken l.fn.sink) (take l.done l.piece) (g.K.Sink.taken l.sink);
}

abbrev pub decreases-loop-done : goal.decreases-loop-done
decreases-loop-done g l = length l.piece - l.done
