-- All records that come before the rest of the text were taken, and no line is unfinished.
use Rattle.cif_laws.proofs.Common.{◌≡◌, [], length}
use Rattle.cif_file.specs.ParserRead.{IsReading, TakesUpTo}
use Rattle.cif_file.proofs.read.parser.FileReading.take_records.Given as goal

abbrev pub invariant-loop-front : goal.invariant-loop-front
invariant-loop-front g l = record {
  taken : TakesUpTo (IsReading g.K.ChangeKeeper.keeps l.fn.self) l.text l.rest (IsReading g.K.ChangeKeeper.keeps l.self);
  none : l.self.partial.items ≡ [];
}

abbrev pub decreases-loop-front : goal.decreases-loop-front
decreases-loop-front g l = length l.rest
