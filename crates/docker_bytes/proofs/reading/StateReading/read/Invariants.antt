-- The bytes before the rest of the piece have been read.
use Rattle.std.proofs.Common.{◌≡◌, ◌++◌, length}
use Rattle.docker_bytes.specs.StateReading.{ReadsOn}
use Rattle.docker_bytes.proofs.ReadingLemmas.{before_rest}
use Rattle.docker_bytes.proofs.reading.StateReading.read.Given as goal

abbrev pub invariant-parts : goal.invariant-parts
invariant-parts g l = record {
  whole : before_rest l.piece l.rest ++ l.rest ≡ l.piece;
  on : ReadsOn l.fn.self l.self (before_rest l.piece l.rest);
}

abbrev pub decreases-parts : goal.decreases-parts
decreases-parts g l = length l.rest
