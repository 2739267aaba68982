-- An intermediate location has up to three times: its arrival, its pass and its departure.
use Rattle.cif_laws.proofs.Common.{ap, ◌∙◌, columns, scheduled_time}
use Rattle.cif_line.specs.CallRead.{number_meant}
use Rattle.cif_change.proofs.JourneyLemmas.{call_times}
use Rattle.cif_change.proofs.journey_times.call_times.Goals as goal

pub returns-clause-value : goal.returns-clause-value
returns-clause-value c =
    call_times c.args.line.now (number_meant c.arrival_number.result) (number_meant c.pass_number.result) (number_meant c.departure_number.result)
    c.requires.kind
    (c.arrival_number.ensures ∙ ap (λ view. scheduled_time (columns 11 15 view)) c.in_ok-view.ensures.value)
    (c.pass_number.ensures ∙ ap (λ view. scheduled_time (columns 21 25 view)) c.in_ok-view.ensures.value)
    (c.departure_number.ensures ∙ ap (λ view. scheduled_time (columns 16 20 view)) c.in_ok-view.ensures.value)
