use Rattle.cif_laws.proofs.Common.{◌≡◌}
use Rattle.train_choice.specs.Falls.{falls_among}
use Rattle.train_choice.proofs.midnights.falls_among.Given as goal

-- no event that the loop has passed has the number `event`
abbrev pub invariant-loop-found : goal.invariant-loop-found
invariant-loop-found l = falls_among l.event l.found-iterator ≡ falls_among l.event l.fn.events
