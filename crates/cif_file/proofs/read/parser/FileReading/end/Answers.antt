-- If the text ends in an unfinished line, this line is taken as the last line. Then the file ends.
use Rattle.cif_file.proofs.ParserLemmas.{counted_last, counted_ended, finished}
use Rattle.cif_file.proofs.LastLineLemmas.{last_line}
use Rattle.cif_file.proofs.read.parser.FileReading.end.Goals as goal

pub returns-then-is_empty : goal.returns-then-is_empty
returns-then-is_empty g c = finished _ _ _ _ _ (counted_ended _ _ c.if-is_empty.ensures) c.finish.ensures

pub returns-in-Err : goal.returns-in-Err
returns-in-Err g c = last_line _ _ _ _ _ _ _ c.if-is_empty.ensures c.as_slice.ensures.value c.without_return-line.ensures.line c.in-Err.ensures.err
    c.fault_at_end.ensures.other c.fault_at_end.ensures.trailer c.fault_at_end.ensures.cut

pub returns-in-Ok : goal.returns-in-Ok
returns-in-Ok g c = finished _ _ _ _ _ (counted_last _ _ _ _ _ c.if-is_empty.ensures c.as_slice.ensures.value c.without_return-line.ensures.line
    c.in-Ok.ensures.read) c.finish-in-Ok.ensures
