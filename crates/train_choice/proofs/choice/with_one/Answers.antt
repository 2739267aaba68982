use Rattle.cif_laws.proofs.Common.{sym, ◌∙◌, on, schedule_choice_cmp, Train}
use Rattle.docker_laws.specs.LiveRows.{is_running}
use Rattle.train_choice.proofs.BestSoFar.{not_better, not_passing, passes_better, told_better}
use Rattle.train_choice.proofs.choice.with_one.Goals as goal
use Rattle.train_choice.proofs.choice.with_one.Goals.{else-is_better-via-then-is_better+else-is_running, else-is_better-via-else-is_better}

pub returns-then-is_running : goal.returns-then-is_running
returns-then-is_running c =
    passes_better (on (λ (train : Train). train.key) schedule_choice_cmp) c.args.view (is_running c.args.uid.now c.args.day) c.args.found
    (told_better (on (λ (train : Train). train.key) schedule_choice_cmp) c.args.view c.args.found _ _ c.as_ref.ensures.value c.is_better.ensures
    ∙ c.if-is_better.true) (sym c.is_running.ensures ∙ c.if-is_running.true)

pub returns-else-is_better : goal.returns-else-is_better
returns-else-is_better c = elim c.else-is_better.branch [
  | else-is_better-via-then-is_better+else-is_running w ↦ not_passing (on (λ (train : Train). train.key) schedule_choice_cmp) c.args.view
      (is_running c.args.uid.now c.args.day) c.args.found (sym w.is_running.ensures ∙ w.if-is_running.false)
  | else-is_better-via-else-is_better w ↦ not_better (on (λ (train : Train). train.key) schedule_choice_cmp) c.args.view
      (is_running c.args.uid.now c.args.day) c.args.found
      (told_better (on (λ (train : Train). train.key) schedule_choice_cmp) c.args.view c.args.found _ _ c.as_ref.ensures.value
      c.is_better.ensures ∙ w.if-is_better.false)
]
