-- The output has taken the first `done` bytes of the text, and no write has failed.
use Rattle.std.proofs.Common.{◌-◌, ◌≤◌, length, take}
use Rattle.docker_host.specs.Streams.{WritesWhole}
use Rattle.docker_host.proofs.streams.Streams.write_all.Given as goal

abbrev pub invariant-loop-done : goal.invariant-loop-done
invariant-loop-done g l = record {
  within : l.done ≤ length l.text;
  so_far : WritesWhole (take l.done l.text) l.fn.self l.self;
}

abbrev pub decreases-loop-done : goal.decreases-loop-done
decreases-loop-done g l = length l.text - l.done
