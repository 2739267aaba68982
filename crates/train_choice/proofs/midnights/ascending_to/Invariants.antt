use Rattle.cif_laws.proofs.Common.{◌≡◌, times_of}
use Rattle.train_choice.specs.Meaning.{times_meant}
use Rattle.train_choice.specs.Midnights.{ascends}
use Rattle.train_choice.proofs.midnights.ascending_to.Given as goal

-- the times that have been read ascend, and `last` is the last of them
abbrev pub invariant-loop-found : goal.invariant-loop-found
invariant-loop-found l = ascends l.last (times_meant l.found-iterator) ≡ ascends l.before (times_of l.line)
