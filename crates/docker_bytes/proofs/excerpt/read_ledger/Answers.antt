use Rattle.std.proofs.Common.{◌≡◌}
use Rattle.docker_model.specs.state.StateText.{dks_2}
use Rattle.docker_bytes.specs.ReadEnds.{as_it_is}
use Rattle.docker_bytes.specs.SourceRead.{ReadsMade, ReadsState, WantsMemory}
use Rattle.docker_bytes.proofs.ReadLemmas.{ends_with, read_itself}
use Rattle.docker_bytes.proofs.excerpt.read_ledger.Goals as goal

pub returns-clause-reads : goal.returns-clause-reads
returns-clause-reads g c =
    let left = g.S.Source.left c.args.source.now in
    ends_with WantsMemory as_it_is g.S.Source.left g.S.Source.failures dks_2 c.args.limit (ReadsMade (λ made state. made ≡ state) dks_2 c.args.limit left)
    (ReadsState dks_2 c.args.limit left) c.args.source.now c.read_format.new.source c.read_format.result (read_itself dks_2 c.args.limit left)
    c.read_format.ensures.reads
