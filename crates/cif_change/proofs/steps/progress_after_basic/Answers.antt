-- After a basic schedule, the reader remembers the stage, whether the schedule is a deletion, and whether it may end without a journey. It remembers no time
-- yet.
use Rattle.cif_laws.proofs.Common.{◌≡◌, refl, ap, sym, ◌∙◌, Bool, ◌||◌}
use Rattle.cif_change.proofs.JourneyLemmas.{basic_read}
use Rattle.cif_change.proofs.steps.progress_after_basic.Goals as goal
use Rattle.cif_change.proofs.steps.progress_after_basic.Goals.{then-deletion, else-deletion}

either_of : (deletion cancellation lacking : Bool) (one two : Bool) → deletion ≡ one → cancellation ≡ two → lacking ≡ (deletion || cancellation)
    → lacking ≡ (one || two)
either_of deletion cancellation lacking one two first second told = told ∙ (λ i. first i || second i)

pub returns : goal.returns
returns c = basic_read _ _ c.requires refl c.is_deletion-deletion.ensures (either_of _ _ _ _ _
    c.is_deletion-deletion.ensures c.is_cancellation-cancellation.ensures (elim c.if-deletion.branch [
      | then-deletion w ↦ w.result-is ∙ w.if-deletion.true ∙ (λ i. sym w.if-deletion.true i || c.is_cancellation-cancellation.result)
      | else-deletion w ↦ w.result-is ∙ (λ i. sym w.if-deletion.false i || c.is_cancellation-cancellation.result)
    ])) (ap (λ clock. clock.falls) c.new.ensures) (ap (λ clock. clock.last) c.new.ensures)
