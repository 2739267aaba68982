use Rattle.cif_laws.proofs.Common.{rules, subst}
use Rattle.cif_change.specs.JourneyRead.{HasLines}
use Rattle.state_text.proofs.ScheduleLemmas.{more_up_to, written_last}
use Rattle.state_text.proofs.schedule.Gathered.take_inner.Goals as goal

pub returns-clause-goes_on : goal.returns-clause-goes_on
returns-clause-goes_on c =
    let here = subst (HasLines c.self.inside.journey) c.self.view_is c.self.invariant in search (rules, more_up_to, written_last)

pub returns-clause-kept : goal.returns-clause-kept
returns-clause-kept c = let here = subst (HasLines c.self.inside.journey) c.self.view_is c.self.invariant in search (rules, written_last)
