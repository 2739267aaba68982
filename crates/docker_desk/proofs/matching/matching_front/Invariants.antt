use Rattle.cif_laws.proofs.Common.{◌≡◌, ◌≤◌, length, take}
use Rattle.docker_desk.specs.Copying.{IsNoFront}
use Rattle.docker_desk.proofs.matching.matching_front.Given as goal

abbrev pub invariant-loop-n : goal.invariant-loop-n
invariant-loop-n l = record {
  few : l.n ≤ length l.piece;
  none : l.n ≡ 0 → IsNoFront (take 1 l.piece) l.text;
}

abbrev pub decreases-loop-n : goal.decreases-loop-n
decreases-loop-n l = l.n
