-- The tactic `auto` proves the second goal too. Its answer is written out so that a wrong body is
-- refused without a long search.
use Rattle.std.proofs.Common.{◌≡◌, rules, subst}
use Rattle.docker_model.specs.state.StateText.{dks_2}
use Rattle.docker_bytes.specs.ReadEnds.{EndsReading}
use Rattle.docker_bytes.specs.SourceRead.{JoinsState}
use Rattle.docker_bytes.proofs.join.join_state.Goals as goal

pub returns-clause-reads : goal.returns-clause-reads
returns-clause-reads g c =
    let same : c.replace-own.result ≡ c.args.state.now = search rules in
    subst (λ own. EndsReading g.S.Source.left g.S.Source.failures dks_2 c.args.limit
    (λ _. JoinsState dks_2 c.args.limit (g.S.Source.left c.args.source.now) own c.receive-after.result.0) c.args.source.now
    c.receive-after.new.source c.receive-after.result.1) same c.receive-after.ensures.reads

pub returns-clause-unchanged : goal.returns-clause-unchanged
returns-clause-unchanged g c = search rules
