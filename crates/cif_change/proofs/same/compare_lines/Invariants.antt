use Rattle.cif_laws.proofs.Common.{◌≡◌, length, concat, bytes_cmp}
use Rattle.cif_change.proofs.same.compare_lines.Given as goal

abbrev pub invariant-loop-one : goal.invariant-loop-one
invariant-loop-one l = bytes_cmp (concat l.own) (concat l.other) ≡ bytes_cmp (concat l.fn.own) (concat l.fn.other)

abbrev pub decreases-loop-one : goal.decreases-loop-one
decreases-loop-one l = length l.own
