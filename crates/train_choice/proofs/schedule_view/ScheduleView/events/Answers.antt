use Rattle.cif_laws.proofs.Common.{ap, ◌∙◌, Train, IsScheduleOf}
use Rattle.train_choice.proofs.KeptLines.{falls_few}
use Rattle.train_choice.proofs.Occurrences.{events_met}
use Rattle.train_choice.proofs.schedule_view.ScheduleView.events.Goals as goal

pub returns-clause-events : goal.returns-clause-events
returns-clause-events c = events_met _ _ _ _ (c.as_slice.ensures ∙ ap (λ (view : Train). view.lines) c.self.view_is) c.identity.ensures c.of.ensures

pub returns-clause-few : goal.returns-clause-few
returns-clause-few c = λ number. falls_few _ _ _
    (let P : Train → Type 0 = λ view. IsScheduleOf view.key view.lines in Rattle.std.proofs.Common.subst P c.self.view_is c.self.invariant)
