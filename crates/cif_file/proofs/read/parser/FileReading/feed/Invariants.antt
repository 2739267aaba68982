-- All lines that come before the rest of the piece were taken.
use Rattle.cif_laws.proofs.Common.{length}
use Rattle.cif_file.specs.ParserRead.{IsReading, TakesUpTo}
use Rattle.cif_file.proofs.read.parser.FileReading.feed.Given as goal

abbrev pub invariant-loop-front : goal.invariant-loop-front
invariant-loop-front g l = TakesUpTo (IsReading g.K.ChangeKeeper.keeps l.fn.self) l.piece l.rest (IsReading g.K.ChangeKeeper.keeps l.self)

abbrev pub decreases-loop-front : goal.decreases-loop-front
decreases-loop-front g l = length l.rest
