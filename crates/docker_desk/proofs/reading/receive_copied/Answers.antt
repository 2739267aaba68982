use Rattle.cif_laws.proofs.Common.{refl, subst, dks_2}
use Rattle.docker_cmd.specs.Prepared.{most_bytes}
use Rattle.docker_host.specs.History.{Bytes}
use Rattle.docker_bytes.specs.SourceRead.{JoinsState}
use Rattle.docker_desk.proofs.ReadFiles.{compares, refuses_as, stops_as}
use Rattle.docker_desk.proofs.reading.receive_copied.Goals as goal

pub returns-in-Err-clause-stops : goal.returns-in-Err-clause-stops
returns-in-Err-clause-stops g c = stops_as _ _ _ _ c.receive-received.ensures.reads.few c.new-copying.ensures.left c.into_parts-source.ensures.left

pub returns-in-Err-clause-ends : goal.returns-in-Err-clause-ends
returns-in-Err-clause-ends g c = refuses_as _ _ _ _ _ _
    _ c.in-Err.ensures.reads.outcome (c.in-Err.ensures.unchanged refl) c.new-copying.ensures.left c.into_parts-source.ensures.left

pub returns-clause-stops : goal.returns-clause-stops
returns-clause-stops g c = stops_as _ _ _ _ c.receive-received.ensures.reads.few c.new-copying.ensures.left c.into_parts-source.ensures.left

pub returns-clause-ends : goal.returns-clause-ends
returns-clause-ends g c = compares _ _ _ _ _ _ _ c.requires.begun c.into_parts-source.ensures.copy c.compared_with-found.ensures
    (subst (λ (bytes : Bytes). JoinsState dks_2 most_bytes bytes c.args.office.now c.receive-received.new.self) c.new-copying.ensures.left
    c.in-Ok.ensures.reads.outcome)
