use Rattle.std.proofs.Common.{rules, []}
use Rattle.std.specs.Prelude.{⊤}
use Rattle.docker_model.specs.state.StateText.{dks_2}
use Rattle.docker_bytes.specs.StateReading.{JoinsText}
use Rattle.docker_bytes.specs.SourceRead.{JoinsState}
use Rattle.docker_bytes.proofs.ReadLemmas.{unread, ends_whole, joined}
use Rattle.docker_bytes.proofs.join.receive.Goals as goal

pub read_pieces-requires-clause-unread : goal.read_pieces-requires-clause-unread
read_pieces-requires-clause-unread g c = unread c.new-parser.result dks_2 c.args.limit [] c.new-parser.ensures

pub returns-in-Err-clause-reads : goal.returns-in-Err-clause-reads
returns-in-Err-clause-reads g c =
    let read = rw (c.new-parser.ensures.format_is, c.new-parser.ensures.limit_is) at c.in-Err.ensures.reads in
    search (rules, read)

pub returns-clause-reads : goal.returns-clause-reads
returns-clause-reads g c =
    let read = rw (c.new-parser.ensures.format_is, c.new-parser.ensures.limit_is) at c.in_default.ensures.reads in
    ends_whole _ _ _ _ c.read_pieces.new.parser _ _ (λ text (_ : ⊤). JoinsText dks_2 c.args.limit text g.R.Receiver.own c.join.result.0)
    (λ _. JoinsState dks_2 c.args.limit _ c.args.own c.join.result.0) c.join.result.1 read (c.join.ensures.ends dks_2 c.args.limit)
    (λ text _ held joins. joined _ _ _ _ _ _ held (rw c.requires.own joins))
