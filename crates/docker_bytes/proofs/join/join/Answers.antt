use Rattle.std.proofs.Common.{subst, IfErr}
use Rattle.std.specs.Prelude.{⊤}
use Rattle.docker_bytes.specs.StateReading.{IsUnended, JoinsText}
use Rattle.docker_bytes.proofs.ReadLemmas.{ended_for}
use Rattle.docker_bytes.proofs.join.join.Goals as goal

pub returns-in-Err-clause-ends : goal.returns-in-Err-clause-ends
returns-in-Err-clause-ends g c = λ format limit text has.
    ended_for format limit text (λ (_ : ⊤). JoinsText format limit text g.R.Receiver.own c.join-state.result.0) c.in-Err.fault c.fault_of.result
    (subst (λ r. IfErr r (λ fault. IsUnended format limit text fault)) c.in-Err.is (c.join-state.ensures.err format limit text has))
    c.fault_of.ensures.memory c.fault_of.ensures.state
