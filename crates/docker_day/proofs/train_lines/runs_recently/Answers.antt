use Rattle.cif_laws.proofs.Common.{◌∙◌, ◌||◌}
use Rattle.docker_day.proofs.train_lines.runs_recently.Goals as goal

pub returns : goal.returns
returns c =
    c.is_some.ensures
    ∙ (λ i. c.recent_runs.ensures.today_is i || c.recent_runs.ensures.day_before_is i || c.recent_runs.ensures.two_before_is i)
