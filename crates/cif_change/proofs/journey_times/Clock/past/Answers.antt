-- The midnights passed at a line's three times are counted time by time.
use Rattle.cif_laws.proofs.Common.{◌+◌, ◌∙◌, Some}
use Rattle.cif_laws.specs.TimesSoFar.{falls_after, later_or}
use Rattle.cif_line.specs.CallRead.{number_meant}
use Rattle.cif_change.specs.JourneyRead.{time_list}
use Rattle.cif_change.proofs.JourneyLemmas.{falls_of_three}
use Rattle.cif_change.proofs.journey_times.Clock.past.Goals as goal

pub returns-clause-falls : goal.returns-clause-falls
returns-clause-falls c =
    c.then-3.ensures.falls
    ∙ (λ i. c.then-2.ensures.falls i + falls_after (c.then-2.ensures.last i) (time_list (number_meant c.args.times.third)))
    ∙ (λ i. (c.then.ensures.falls i + falls_after (c.then.ensures.last i) (time_list (number_meant c.args.times.second))) + falls_after
    (later_or (number_meant c.args.times.second) (c.then.ensures.last i)) (time_list (number_meant c.args.times.third)))
    ∙ falls_of_three c.args.self.falls (Some c.args.self.last) (number_meant c.args.times.first) (number_meant c.args.times.second)
    (number_meant c.args.times.third)
