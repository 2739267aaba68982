use Rattle.docker_program.proofs.ProgramLemmas.{performs_telling}
use Rattle.docker_program.proofs.program.perform.Goals as goal

pub returns-in-Err : goal.returns-in-Err
returns-in-Err g c = record {
  performs = performs_telling _ _ _ _ _ _ _ _ _
      c.host.view_is c.in-Err.ensures.ends c.in-Err.ensures.counted c.in-Err.ensures.not_passed c.in-Err.ensures.faults c.in-Err.ensures.untold
      c.tell.ensures.status c.tell.ensures.line;
}
