-- A schedule begins with its basic schedule.
use Rattle.cif_laws.proofs.Common.{◌∙◌, refl}
use Rattle.cif_file.proofs.FrontLemmas.{basic_added}
use Rattle.cif_file.proofs.UnitLemmas.{schedule_is_first}
use Rattle.cif_file.proofs.records.front.Front.open.Goals as goal

pub opened_schedule-opened-requires : goal.opened_schedule-opened-requires
opened_schedule-opened-requires g c = schedule_is_first c.args.view.now c.requires

pub returns-clause-read : goal.returns-clause-read
returns-clause-read g c = λ records over counted. basic_added _ _ _ _ _ over c.requires.is c.requires.good_fields refl _ c.requires.by_kind.1
    (c.opened_schedule-opened.ensures.number ∙ counted) c.opened_schedule-opened.ensures.key c.opened_schedule-opened.ensures.progress refl
    c.in_ok-begin.ensures.kept
