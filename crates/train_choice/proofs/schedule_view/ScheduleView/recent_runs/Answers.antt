use Rattle.cif_laws.proofs.Common.{ap, sym, ◌∙◌, subst, Train, IsScheduleOf}
use Rattle.train_choice.proofs.RecentDays.{recent_runs_told, never_told}
use Rattle.train_choice.proofs.schedule_view.ScheduleView.recent_runs.Goals as goal

pub returns : goal.returns
returns c = recent_runs_told _ _ _ _ _ _ (subst (λ (view : Train). IsScheduleOf view.key view.lines) c.self.view_is c.self.invariant) c.first.ensures.line
    (ap (λ (view : Train). view.key.runs_from) c.self.view_is) c.recent_runs_of.ensures

pub returns-then-begins_after : goal.returns-then-begins_after
returns-then-begins_after c = never_told _ _ _ _ _ (subst (λ (view : Train). IsScheduleOf view.key view.lines) c.self.view_is c.self.invariant)
    (ap (λ (view : Train). view.key.runs_from) c.self.view_is) (sym c.begins_after.ensures ∙ c.if-begins_after.true) c.never.ensures
