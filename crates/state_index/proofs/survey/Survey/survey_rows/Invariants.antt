use Rattle.cif_laws.proofs.Common.{length, map}
use Rattle.docker_join.specs.Meaning.{row_meant}
use Rattle.state_index.specs.declared.survey.Survey.{Survey}
use Rattle.state_index.specs.Rooms.{HasGrownBy, items_of}
use Rattle.state_index.proofs.survey.Survey.survey_rows.Given as goal

abbrev pub invariant-loop-row : goal.invariant-loop-row
invariant-loop-row l = record {
  grown : (new : Survey) → HasGrownBy (items_of (map row_meant l.rest)) l.self new → HasGrownBy (items_of (map row_meant l.rows)) l.fn.self new;
}

abbrev pub decreases-loop-row : goal.decreases-loop-row
decreases-loop-row l = length l.rest
