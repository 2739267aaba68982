use Rattle.cif_laws.proofs.Common.{ap, ◌∙◌, first_record}
use Rattle.train_choice.specs.Midnights.{falls_along}
use Rattle.train_choice.specs.UpTo.{up_to_last}
use Rattle.train_choice.proofs.Late.{late_by_times}
use Rattle.train_choice.proofs.midnights.passes_midnight.Goals as goal

pub returns : goal.returns
returns c =
    c.falls_along.ensures ∙ ap (falls_along 0) c.lines_to.ensures.lines
    ∙ late_by_times (first_record c.args.view.now.lines) (up_to_last c.args.place.now c.args.view.now.lines)
