use Rattle.std.proofs.Common.{subst, Some}
use Rattle.cif_file.specs.SourceRead.{RefusesText}
use Rattle.docker_office.specs.Office.{TakesFile}
use Rattle.docker_office.proofs.OfficeLemmas.{taken_ok, taken_only, taken_unfailed}
use Rattle.docker_office.proofs.steps.take_text.Goals as goal

pub returns-clause-ok : goal.returns-clause-ok
returns-clause-ok c = λ done.
    subst (λ text. TakesFile c.args.limit (Some text) c.args.office.now c.take.new.self) c.new.ensures.left
    (taken_ok c.args.limit (TakesFile c.args.limit (Some c.new.result.left) c.args.office.now c.take.new.self) (Some c.new.result.left)
    (Some c.take.new.source.left) c.take.result c.take.ensures.takes.outcome done)

pub returns-clause-file : goal.returns-clause-file
returns-clause-file c = λ fault is.
    subst (λ text. RefusesText c.args.limit (Some text) fault) c.new.ensures.left (rw is at c.take.ensures.takes.outcome)

pub returns-clause-source : goal.returns-clause-source
returns-clause-source c = taken_unfailed 0 c.take.result c.take.ensures.takes.failures

pub returns-clause-only : goal.returns-clause-only
returns-clause-only c =
    taken_only c.args.limit (λ _. TakesFile c.args.limit (Some c.new.result.left) c.args.office.now c.take.new.self) (Some c.new.result.left)
    (Some c.take.new.source.left) c.take.result c.take.ensures.takes.outcome
