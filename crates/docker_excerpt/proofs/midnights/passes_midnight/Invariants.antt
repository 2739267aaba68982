-- The remaining lines lead to the same last time as all lines, and have good fields.
use Rattle.cif_laws.proofs.Common.{◌≡◌, All, Some, length, HasGoodFields, times_along}
use Rattle.docker_excerpt.specs.Midnights.{past_all}
use Rattle.docker_excerpt.proofs.midnights.passes_midnight.Given as goal

abbrev pub invariant-loop-line : goal.invariant-loop-line
invariant-loop-line l = record {
  same : All HasGoodFields l.lines → past_all l.last (times_along l.behind) ≡ past_all (Some 0) (times_along l.lines);
  good : All HasGoodFields l.lines → All HasGoodFields l.behind;
}

abbrev pub decreases-loop-line : goal.decreases-loop-line
decreases-loop-line l = length l.behind
