use Rattle.cif_laws.proofs.Common.{◌<◌, ◌^◌, List, ℕ, length, ap, sym, ◌∙◌, subst, All, HasGoodFields}
use Rattle.cif_change.specs.Meaning.{schedule_key_meant}
use Rattle.train_choice.specs.UpTo.{up_to_last}
use Rattle.train_choice.proofs.UpTo.{lines_to_good, lines_to_few}
use Rattle.train_choice.proofs.schedule_view.ScheduleView.lines_to.Goals as goal

pub returns-clause-good : goal.returns-clause-good
returns-clause-good c = subst (All HasGoodFields) (sym (c.up_to_last.ensures ∙ ap (up_to_last c.args.place.now) c.as_slice.ensures))
    (lines_to_good _ _ _ c.self.invariant)

pub returns-clause-few : goal.returns-clause-few
returns-clause-few c =
    subst (λ (lines : List (List ℕ)). length lines < 2 ^ 32) (sym (c.up_to_last.ensures ∙ ap (up_to_last c.args.place.now) c.as_slice.ensures))
    (lines_to_few c.args.place.now (schedule_key_meant c.self.inside.key.now) c.self.inside.lines.now c.self.invariant)
