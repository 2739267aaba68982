-- The cause that is returned is a correct cause for the next record.
use Rattle.cif_laws.proofs.Common.{arith}
use Rattle.cif_file.proofs.records.Records.take_line.Goals as goal

pub returns-in-Err-clause-err : goal.returns-in-Err-clause-err
returns-in-Err-clause-err g c = λ limit records counted.
    let next = counted.next_is in
    let limits = counted.limit_is in
    let within = c.if-number-self.false in
    record { number = next; cause = c.in-Err.ensures.err limit records counted.has (omega arith) }
