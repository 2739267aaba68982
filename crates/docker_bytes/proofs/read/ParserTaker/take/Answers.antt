-- If the parser reads a piece without a fault, the `ParserTaker` has taken the piece.
use Rattle.docker_bytes.proofs.ReadLemmas.{takes_more, refuses_more}
use Rattle.docker_bytes.proofs.read.ParserTaker.take.Goals as goal

pub returns-clause-taken : goal.returns-clause-taken
returns-clause-taken g c = takes_more c.args.self.now c.feed.new.parser c.args.piece.now c.feed.result c.feed.ensures.read

pub returns-clause-refused : goal.returns-clause-refused
returns-clause-refused g c = refuses_more _ _ _ _ c.feed.ensures.state c.feed.ensures.memory c.feed.ensures.source
