use Rattle.cif_laws.proofs.Common.{◌≡◌, length}
use Rattle.train_choice.specs.UpTo.{up_to_last}
use Rattle.train_choice.proofs.up_to.up_to_last.Given as goal

-- no line that was dropped from the end is at the place
abbrev pub invariant-loop-line : goal.invariant-loop-line
invariant-loop-line l = up_to_last l.place l.rest ≡ up_to_last l.place l.initial.lines

abbrev pub decreases-loop-line : goal.decreases-loop-line
decreases-loop-line l = length l.rest
