-- The cause is `Byte` only if the line has 80 bytes.
use Rattle.cif_laws.proofs.Common.{◌∙◌, ap, sym, cond, Some, Err, ◌==◌, bad_byte, bad_length}
use Rattle.cif_laws.specs.RecordCause.{byte_cause, kind_cause, with_column}
use Rattle.cif_file.proofs.read.next_record.line_of.Goals as goal

pub returns-in-Err-Byte-clause-err : goal.returns-in-Err-Byte-clause-err
returns-in-Err-Byte-clause-err c = λ place.
    let told = (c.new.ensures.byte c.in-Err-Byte.column).0 (c.in-Err-Byte.is ∙ ap Err c.in-Err-Byte.field-0-is) in
    ap Some (sym ((λ i. cond (ap (λ n. n == 80) told.0 i) (byte_cause place c.args.bytes.now) bad_length) ∙
    (λ i. with_column bad_byte (told.1 i) (kind_cause place c.args.bytes.now))))
