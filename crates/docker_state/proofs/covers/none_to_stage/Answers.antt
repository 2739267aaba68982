use Rattle.docker_join.specs.Meaning.{row_meant, floor_meant}
use Rattle.docker_state.proofs.NothingToStage.{none_of_no_row, none_of_rest, untold}
use Rattle.docker_state.proofs.covers.none_to_stage.Goals as goal

pub loop-row-preserved : goal.loop-row-preserved
loop-row-preserved c = λ none. c.loop-row.invariant (none_of_rest _ _ _ _ _ _ c.in-Some.ensures.cases.0
    (untold _ c.if-is_to_stage.false c.is_to_stage.ensures) none)

pub returns : goal.returns
returns c = λ _. c.loop-row.invariant (none_of_no_row row_meant c.args.own.now (floor_meant c.args.floor.now) c.loop-row.rest.now c.in_default.ensures.cases)
