use Rattle.cif_laws.proofs.Common.{◌*◌, length, ◌∙◌}
use Rattle.train_choice.proofs.Late.{first_good}
use Rattle.train_choice.proofs.WalkOn.{goes_on, still_can}
use Rattle.train_choice.proofs.events.EventsIterator.next.Goals as goal

pub invariant_of-self : goal.invariant_of-self
invariant_of-self c = record {
  good = c.lines.invariant.can.good;
  room = c.next_event.ensures.room (3 * length c.lines.self-inside.lines.now) c.lines.invariant.can.room;
}

pub advance-requires : goal.advance-requires
advance-requires c = record {
  good = first_good _ _ _ c.lines.invariant.can.good c.in_ok-line.ensures.cases.0;
}

pub lines-preserved : goal.lines-preserved
lines-preserved c = record {
  same = c.lines.invariant.same
      ∙ goes_on c.lines.self-inside.walk c.next_event.new.self c.advance.new.self c.lines.self-inside.lines.now c.in_ok-line.rest.now c.in_ok-line.line.now
      c.in_ok-line.ensures.cases.0 c.in_default.ensures.event.0 c.in_default.ensures.event.1 c.in_default.ensures.behind
      (λ i. (c.advance.ensures.line i).now) c.advance.ensures.times c.advance.ensures.progress;
  can = still_can c.lines.self-inside.walk c.next_event.new.self c.advance.new.self c.lines.self-inside.lines.now c.in_ok-line.rest.now c.in_ok-line.line.now
      c.in_ok-line.ensures.cases.0 c.lines.invariant.can c.in_default.ensures.room c.advance.ensures.few c.advance.ensures.progress;
}
