use Rattle.cif_laws.proofs.Common.{◌≡◌, length}
use Rattle.train_choice.specs.EventWalk.{events_left, CanWalk}
use Rattle.train_choice.proofs.events.EventsIterator.next.Given as goal

-- moving to the next line leaves the list of remaining events unchanged
abbrev pub invariant-lines : goal.invariant-lines
invariant-lines l = record {
  same : events_left l.initial.self-inside.walk l.initial.self-inside.lines.now ≡ events_left l.self-inside.walk l.self-inside.lines.now;
  can : CanWalk l.self-inside.walk l.self-inside.lines.now;
}

abbrev pub decreases-lines : goal.decreases-lines
decreases-lines l = length l.self-inside.lines.now
