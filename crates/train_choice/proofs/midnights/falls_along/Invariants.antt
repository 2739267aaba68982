use Rattle.cif_laws.proofs.Common.{◌≡◌, All, length, HasGoodFields}
use Rattle.train_choice.specs.Midnights.{falls_along}
use Rattle.train_choice.proofs.midnights.falls_along.Given as goal

-- the train passes midnight in the remaining lines, which follow the time `last`, if and only if it
-- passes midnight in all lines
abbrev pub invariant-loop-line : goal.invariant-loop-line
invariant-loop-line l = record {
  same : falls_along l.last l.behind ≡ falls_along 0 l.lines;
  good : All HasGoodFields l.behind;
}

abbrev pub decreases-loop-line : goal.decreases-loop-line
decreases-loop-line l = length l.behind
