-- The bytes before the rest have been read, and the next part is a line. The rest contains all
-- bytes of the `more` lines that the loop still takes. These lines are within the limit, and the
-- schedule's last line isn't among them.
use Rattle.std.proofs.Common.{◌≡◌, ◌+◌, ◌-◌, ◌*◌, ◌≤◌, [], ◌++◌, length}
use Rattle.docker_bytes.specs.StateReading.{ReadsOn, IsLineOf}
use Rattle.docker_bytes.proofs.ReadingLemmas.{before_rest}
use Rattle.docker_bytes.proofs.reading.StateReading.take_lines.Given as goal

abbrev pub invariant-lines : goal.invariant-lines
invariant-lines g l = record {
  whole : before_rest l.piece l.rest ++ l.rest ≡ l.piece;
  on : ReadsOn l.fn.self l.self (before_rest l.piece l.rest);
  line : IsLineOf l.key l.count l.self.stage;
  none : l.self.partial.items ≡ [];
  held : l.more * 80 ≤ length l.rest;
  within : l.self.reached + l.more * 80 ≤ l.self.limit;
  few : l.more ≤ l.count - 1 - length l.self.lines;
}

abbrev pub decreases-lines : goal.decreases-lines
decreases-lines g l = l.more
