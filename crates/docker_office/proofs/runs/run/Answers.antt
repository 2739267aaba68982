use Rattle.std.proofs.Common.{◌∷◌, [], ◌++◌, length, take, sym, ap, ◌∙◌, subst, arith}
use Rattle.std.proofs.Math.ListN.{get_or-map}
use Rattle.std.proofs.lemmas.List.{length-map, map_more}
use Rattle.std.proofs.lemmas.List.Elements.{All-get_or}
use Rattle.docker_office.specs.RunEnds.{HasGoodLimit}
use Rattle.docker_office.specs.RunMeaning.{event_meant, events_meant}
use Rattle.docker_office.proofs.RunSoFar.{HasRun, run_at_first, run_with_one_more, run_at_end}
use Rattle.docker_office.proofs.RunClauses.{one_each, each_reply, one_sent, all_offices, each_state, each_message}
use Rattle.docker_office.proofs.runs.run.Goals as goal

pub loop-event-init : goal.loop-event-init
loop-event-init c = record {
  run = subst (λ replies. HasRun c.args.offices [] replies c.in_ok-held.held) (sym c.in_ok-replies.ensures.items)
      (run_at_first _ _ c.in_ok-held.ensures.offices c.in_ok-held.ensures.each c.in_ok-held.ensures.messages);
  many = c.in_ok-replies.ensures.len;
  room = c.in_ok-replies.ensures.capacity;
  few = let none = ap length c.in_ok-held.ensures.messages in omega arith;
  slots = c.in_ok-held.ensures.room;
}

pub meet-requires-clause-limit : goal.meet-requires-clause-limit
meet-requires-clause-limit c =
    subst (λ e. HasGoodLimit (event_meant e)) (sym c.event-item.is)
    (subst HasGoodLimit (get_or-map event_meant c.args.events.now c.loop-event.event-index c.event-item.result)
    (All-get_or HasGoodLimit (events_meant c.args.events.now) c.loop-event.event-index (event_meant c.event-item.result)
    (let same = length-map c.args.events.now event_meant in omega arith) c.requires))

pub loop-event-preserved : goal.loop-event-preserved
loop-event-preserved c = record {
  run = subst (λ events. HasRun c.args.offices events c.push_reserved.new.self.items c.meet.new.self)
      (sym (map_more event_meant c.args.events.now c.loop-event.event-index c.event-item.result c.loop-event-test.true
      ∙ ap (λ e. events_meant (take c.loop-event.event-index c.args.events.now) ++ event_meant e ∷ []) (sym c.event-item.is)))
      (subst (λ replies. HasRun c.args.offices
      (events_meant (take c.loop-event.event-index c.args.events.now) ++ event_meant c.event-item.result ∷ []) replies c.meet.new.self)
      (sym c.push_reserved.ensures.items) (run_with_one_more _ _ _ _ _ _ _ c.loop-event.invariant.run c.meet.ensures.good c.meet.ensures.met));
  many = omega arith;
  room = omega arith;
  few = omega arith;
  slots = omega arith;
}

pub returns-clause-run : goal.returns-clause-run
returns-clause-run c = run_at_end _ _ _ _ _ _ c.loop-event.invariant.run c.loop-event-test.false c.of.ensures

pub returns-clause-one_each : goal.returns-clause-one_each
returns-clause-one_each c = one_each _ _ _ (returns-clause-run c) ∙ length-map c.args.events.now event_meant

pub returns-clause-reply : goal.returns-clause-reply
returns-clause-reply c = λ place low. each_reply _ _ _ (returns-clause-run c) _
    (let same = length-map c.args.events.now event_meant in omega arith)

pub returns-clause-sent : goal.returns-clause-sent
returns-clause-sent c = one_sent c.args.offices (events_meant c.args.events.now) c.of.result (returns-clause-run c)

pub returns-clause-offices : goal.returns-clause-offices
returns-clause-offices c = all_offices c.args.offices (events_meant c.args.events.now) c.of.result (returns-clause-run c)

pub returns-clause-state : goal.returns-clause-state
returns-clause-state c = λ office there. each_state c.args.offices (events_meant c.args.events.now) c.of.result (returns-clause-run c) office there

pub returns-clause-message : goal.returns-clause-message
returns-clause-message c = λ message sent. each_message c.args.offices (events_meant c.args.events.now) c.of.result (returns-clause-run c) message sent
