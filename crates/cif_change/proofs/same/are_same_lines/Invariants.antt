use Rattle.cif_laws.proofs.Common.{◌≡◌, length, ◌↔◌}
use Rattle.cif_change.proofs.same.are_same_lines.Given as goal

abbrev pub invariant-loop-one : goal.invariant-loop-one
invariant-loop-one l = (l.own ≡ l.other) ↔ (l.fn.own ≡ l.fn.other)

abbrev pub decreases-loop-one : goal.decreases-loop-one
decreases-loop-one l = length l.own
