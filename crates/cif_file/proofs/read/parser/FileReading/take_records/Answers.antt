-- The records at the start of the text are taken one by one.
use Rattle.cif_laws.proofs.Common.{refl}
use Rattle.cif_file.specs.ParserRead.{IsReading}
use Rattle.cif_file.proofs.ParserLemmas.{empty_is, takes_none, record_read, record_fault, fault_in_rest, passed_on}
use Rattle.cif_file.proofs.read.parser.FileReading.take_records.Goals as goal

pub returns-then-not-is_empty-clause-read : goal.returns-then-not-is_empty-clause-read
returns-then-not-is_empty-clause-read g c = takes_none (IsReading g.K.ChangeKeeper.keeps c.args.self.now) c.args.text.now

pub loop-front-init : goal.loop-front-init
loop-front-init g c = record {
  taken = takes_none (IsReading g.K.ChangeKeeper.keeps c.args.self.now) c.args.text.now;
  none = empty_is c.args.self.now c.if-not-is_empty.ensures;
}

pub returns-in_err-take_line : goal.returns-in_err-take_line
returns-in_err-take_line g c = passed_on _ _ _ _ _ _ _ c.from_residual.ensures.1 (fault_in_rest _ _ _ _ _ _ _ c.loop-front.invariant.taken
    (record_fault _ _ _ _ _ _ _ _
    c.in-Some.ensures c.in-Some-of.ensures.value (c.in-Some-of.ensures.some.0 refl) c.loop-front.invariant.none c.in_err-take_line.ensures.err))

pub loop-front-preserved : goal.loop-front-preserved
loop-front-preserved g c = record {
  taken = record_read _ _ _ _ _ _ _ _ _ c.loop-front.invariant.taken c.in-Some.ensures c.in-Some-of.ensures.value (c.in-Some-of.ensures.some.0 refl)
      c.loop-front.invariant.none c.in_ok-take_line.ensures.read c.loop-front.invariant.none;
  none = c.loop-front.invariant.none;
}
