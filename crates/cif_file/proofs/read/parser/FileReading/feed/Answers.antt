-- The piece is taken line by line. If no line is unfinished, complete records are taken first.
use Rattle.cif_file.proofs.ParserLemmas.{cut_whole, takes_line, takes_more, rest_taken, fault_in_rest, fault_in_front, passed_on}
use Rattle.cif_file.proofs.read.parser.FileReading.feed.Goals as goal

pub returns-in_err-end_line : goal.returns-in_err-end_line
returns-in_err-end_line g c = passed_on _ _ _ _ _ _ _ c.from_residual-in_err-end_line.ensures.1 (fault_in_rest _ _ _ _ _ _ _ c.loop-front.invariant
    (fault_in_front _ _ _ _ _ _ _ (cut_whole _ _ _ c.in-Some.ensures) c.in_err-end_line.ensures))

pub returns-in_err-rest-2 : goal.returns-in_err-rest-2
returns-in_err-rest-2 g c = passed_on _ _ _ _ _ _ _ c.from_residual-in_err-rest-2.ensures.1 (fault_in_rest _ _ _ _ _ _ _
    (takes_line _ _ _ _ _ _ _ c.loop-front.invariant c.in-Some.ensures c.in_ok-end_line.ensures.read) c.in_err-rest-2.ensures)

pub loop-front-preserved : goal.loop-front-preserved
loop-front-preserved g c = takes_more _ _ _ _ _ _ (takes_line _ _ _ _ _ _ _ c.loop-front.invariant c.in-Some.ensures c.in_ok-end_line.ensures.read)
    c.in_ok-rest-2.ensures.read

pub returns : goal.returns
returns g c = rest_taken _ _ _ _ _ _ _ _ c.loop-front.invariant c.keep.ensures
