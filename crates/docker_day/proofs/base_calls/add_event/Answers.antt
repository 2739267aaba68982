use Rattle.cif_laws.proofs.Common.{sym, subst, ◌∙◌, on_ok_weaker}
use Rattle.train_choice.specs.Occurrences as events
use Rattle.train_choice.specs.EventWalk.{occurrence_meant}
use Rattle.docker_day.specs.Bases.{HasCall}
use Rattle.docker_day.proofs.FirstCalls.{elsewhere, taken_here}
use Rattle.docker_day.proofs.base_calls.add_event.Goals as goal

pub returns-then-is_here : goal.returns-then-is_here
returns-then-is_here c =
    on_ok_weaker c.add_call.result
    (λ has. taken_here c.args.place.now (occurrence_meant c.args.event.now) c.args.calls.now c.add_call.new.calls
    (sym c.is_here.ensures ∙ c.if-is_here.true)
    (subst (λ suffix. HasCall suffix c.args.calls.now (occurrence_meant c.args.event.now) c.add_call.new.calls) c.suffix_in.ensures
    (subst (λ (e : events.Occurrence). HasCall c.suffix_in.result c.args.calls.now e c.add_call.new.calls) c.of.ensures has)))
    c.add_call.ensures

pub returns-else-is_here : goal.returns-else-is_here
returns-else-is_here c =
    elsewhere c.args.place.now (occurrence_meant c.args.event.now) c.args.calls.now (sym c.is_here.ensures ∙ c.if-is_here.false)
