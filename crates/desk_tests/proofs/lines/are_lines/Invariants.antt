-- The input hasn't failed.
use Rattle.std.proofs.Common.{◌≡◌}
use Rattle.desk_tests.proofs.lines.are_lines.Given as goal

abbrev pub invariant-loop-line : goal.invariant-loop-line
invariant-loop-line g l = l.streams.input_failures ≡ 0
