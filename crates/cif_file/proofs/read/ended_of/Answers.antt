-- The result is what the parser returns at the end, except that a fault with the cause `Memory` becomes the read fault `Memory`.
use Rattle.cif_file.proofs.ReadLemmas.{fault_at_end, memory_at_end}
use Rattle.cif_file.proofs.read.ended_of.Goals as goal

pub returns-in-Err-clause-file : goal.returns-in-Err-clause-file
returns-in-Err-clause-file g c = λ limit text has fault is.
    fault_at_end limit text c.in-Err.fault fault c.fault_of.result (c.in-Err.ensures.err limit text has) c.fault_of.ensures.memory c.fault_of.ensures.file is

pub returns-in-Err-clause-memory : goal.returns-in-Err-clause-memory
returns-in-Err-clause-memory g c = λ limit text has is. memory_at_end _ _ _ _ _ _ _ has
    (c.in-Err.ensures.err limit text has) c.in-Err.ensures.later c.in-Err.ensures.last c.fault_of.ensures.file is
