use Rattle.docker_bytes.specs.StateReading.{IsMadeOf}
use Rattle.docker_bytes.proofs.ReadLemmas.{ended_for}
use Rattle.docker_bytes.proofs.read.finish.Goals as goal

pub returns-in-Ok : goal.returns-in-Ok
returns-in-Ok g c = λ format limit text has. c.in-Ok.ensures.ok format limit text has

pub returns-in-Err : goal.returns-in-Err
returns-in-Err g c = λ format limit text has.
    ended_for format limit text (IsMadeOf g.K.Maker.makes format limit text) c.in-Err.fault c.fault_of.result (c.in-Err.ensures.err format limit text has)
    c.fault_of.ensures.memory c.fault_of.ensures.state
