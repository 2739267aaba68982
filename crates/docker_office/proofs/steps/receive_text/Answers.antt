use Rattle.std.proofs.Common.{length, subst, Some}
use Rattle.docker_bytes.specs.SourceRead.{JoinsState, RefusesState, WantsMemory}
use Rattle.docker_model.specs.state.StateText.{dks_2}
use Rattle.docker_office.proofs.OfficeLemmas.{read_ok, read_only, read_unfailed}
use Rattle.docker_office.proofs.steps.receive_text.Goals as goal

pub returns-clause-ok : goal.returns-clause-ok
returns-clause-ok c = λ done.
    let limit = length c.args.text.now in
    subst (λ text. JoinsState dks_2 limit (Some text) c.args.office.now c.receive.new.self) c.new.ensures.left
    (read_ok WantsMemory dks_2 limit (JoinsState dks_2 limit (Some c.new.result.left) c.args.office.now c.receive.new.self) (Some c.new.result.left)
    (Some c.receive.new.source.left) c.receive.result c.receive.ensures.reads.outcome done)

pub returns-clause-state : goal.returns-clause-state
returns-clause-state c = λ fault is.
    subst (λ text. RefusesState dks_2 (length c.args.text.now) (Some text) fault) c.new.ensures.left (rw is at c.receive.ensures.reads.outcome)

pub returns-clause-source : goal.returns-clause-source
returns-clause-source c = read_unfailed 0 c.receive.result c.receive.ensures.reads.failures

pub returns-clause-only : goal.returns-clause-only
returns-clause-only c =
    let limit = length c.args.text.now in
    read_only WantsMemory dks_2 limit (λ _. JoinsState dks_2 limit (Some c.new.result.left) c.args.office.now c.receive.new.self) (Some c.new.result.left)
    (Some c.receive.new.source.left) c.receive.result c.receive.ensures.reads.outcome
