use Rattle.cif_laws.proofs.Common.{map, length}
use Rattle.docker_join.specs.Meaning.{row_meant, floor_meant}
use Rattle.docker_state.specs.Staging.{HasNoneToStage}
use Rattle.docker_state.proofs.covers.none_to_stage.Given as goal

abbrev pub invariant-loop-row : goal.invariant-loop-row
invariant-loop-row l =
    HasNoneToStage l.own (floor_meant l.floor) (map row_meant l.rest) → HasNoneToStage l.own (floor_meant l.floor) (map row_meant l.rows)

abbrev pub decreases-loop-row : goal.decreases-loop-row
decreases-loop-row l = length l.rest
