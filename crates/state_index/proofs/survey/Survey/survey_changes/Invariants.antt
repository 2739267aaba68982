use Rattle.cif_laws.proofs.Common.{length, map}
use Rattle.cif_change.specs.Meaning.{change_meant}
use Rattle.state_index.specs.declared.survey.Survey.{Survey}
use Rattle.state_index.specs.Rooms.{HasGrownBy, changed_items}
use Rattle.state_index.proofs.survey.Survey.survey_changes.Given as goal

abbrev pub invariant-loop-change : goal.invariant-loop-change
invariant-loop-change l = record {
  grown : (new : Survey) → HasGrownBy (changed_items (map change_meant l.rest)) l.self new
      → HasGrownBy (changed_items (map change_meant l.changes)) l.fn.self new;
}

abbrev pub decreases-loop-change : goal.decreases-loop-change
decreases-loop-change l = length l.rest
