-- A piece is taken by feeding it to the parser.
use Rattle.cif_file.proofs.ReadLemmas.{takes_more, refuses_more}
use Rattle.cif_file.proofs.read.FileReadingTaker.take.Goals as goal

pub returns-clause-taken : goal.returns-clause-taken
returns-clause-taken g c = takes_more g.K.ChangeKeeper.keeps c.args.self.now c.feed.new.self c.args.piece.now c.feed.result c.feed.ensures.read

pub returns-clause-refused : goal.returns-clause-refused
returns-clause-refused g c = refuses_more _ _ _ _ _ c.feed.ensures.err c.feed.ensures.later
