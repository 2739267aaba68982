use Rattle.cif_laws.proofs.Common.{ap, sym, ◌∙◌, Some, arith}
use Rattle.train_choice.specs.Falls.{falls_among}
use Rattle.train_choice.proofs.FallsCounted.{falls_there, falls_are, falls_few}
use Rattle.train_choice.proofs.midnights.falls.Goals as goal

pub returns : goal.returns
returns c =
    let found = sym c.in_ok-falls.was ∙ c.falls_among.ensures ∙ ap (falls_among c.args.event) c.events.ensures.events in
    record {
      there = falls_there c.args.view.now.lines c.args.event (Some c.in_ok-falls.falls) found;
      value = falls_are c.args.view.now.lines c.args.event (Some c.in_ok-falls.falls) found;
      few = falls_few c.args.view.now.lines c.args.event c.in_ok-falls.falls (sym found) c.events.ensures.few;
    }

pub overflow_cast-result : goal.overflow_cast-result
overflow_cast-result c =
    let found = sym c.in_ok-falls.was ∙ c.falls_among.ensures ∙ ap (falls_among c.args.event) c.events.ensures.events in
    let few = falls_few c.args.view.now.lines c.args.event c.in_ok-falls.falls (sym found) c.events.ensures.few in
    omega arith
