-- The lines that were taken are a whole schedule if and only if a schedule may end at the stage
-- after them.
use Rattle.cif_laws.proofs.Common.{ap, sym, ◌∙◌, option_map}
use Rattle.cif_change.specs.JourneyRead.{stage_meant, may_end_by}
use Rattle.cif_change.proofs.JourneyLemmas.{complete_by}
use Rattle.cif_change.proofs.progress.Progress.complete.Goals as goal

pub returns-in-Some : goal.returns-in-Some
returns-in-Some c = λ lines has. complete_by _ _ _
    (c.may_end.ensures ∙ ap (λ stage. may_end_by (option_map stage_meant stage) c.args.self.lacking) (sym c.in-Some.is)) has
