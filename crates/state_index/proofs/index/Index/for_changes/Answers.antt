use Rattle.cif_laws.proofs.Common.{map, refl}
use Rattle.cif_change.specs.Meaning.{change_meant}
use Rattle.state_index.specs.Rooms.{changed_items}
use Rattle.state_index.proofs.index.Index.for_changes.Goals as goal

pub returns : goal.returns
returns c = c.of_survey.ensures (changed_items (map change_meant c.args.changes.now)) c.in_ok-survey.survey (c.in_ok-survey_changes.ensures refl)
