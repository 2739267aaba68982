use Rattle.std.proofs.Common.{◌≡◌}
use Rattle.state_text.specs.FormatMeaning.{format_meant}
use Rattle.docker_bytes.specs.ReadEnds.{as_it_is}
use Rattle.docker_bytes.specs.SourceRead.{ReadsMade, ReadsState, WantsMemory}
use Rattle.docker_bytes.proofs.ReadLemmas.{ends_with, read_itself}
use Rattle.docker_bytes.proofs.read.read_unindexed.Goals as goal

pub returns-clause-reads : goal.returns-clause-reads
returns-clause-reads g c =
    let format = format_meant c.args.format in
    let left = g.S.Source.left c.args.source.now in
    ends_with WantsMemory as_it_is g.S.Source.left g.S.Source.failures format c.args.limit (ReadsMade (λ made state. made ≡ state) format c.args.limit left)
    (ReadsState format c.args.limit left) c.args.source.now c.read_format.new.source c.read_format.result (read_itself format c.args.limit left)
    c.read_format.ensures.reads
