-- A basic schedule with good fields can be the first line of a schedule.
use Rattle.cif_laws.proofs.Common.{◌≡◌, refl, true, subst, sym}
use Rattle.cif_laws.specs.ScheduleStage.{is_first_line}
use Rattle.cif_change.proofs.JourneyLemmas.{first_line_is}
use Rattle.cif_change.proofs.steps.progress_after_first_basic.Goals as goal

pub progress_after_basic-requires : goal.progress_after_basic-requires
progress_after_basic-requires c = subst (λ line. is_first_line line ≡ true) (sym c.in_ok-view.ensures.value)
    (first_line_is _ c.requires.«record» c.requires.kind (c.in_ok-view.ensures.ok.0 refl))

pub returns-clause-ok : goal.returns-clause-ok
returns-clause-ok c = (λ _. first_line_is c.args.line.now c.requires.«record» c.requires.kind (c.in_ok-view.ensures.ok.0 refl), λ _. refl)
