-- The texts that say why no state was read.
use Rattle.std.specs.Prelude.{ℕ, List, codes}
use Rattle.docker_bytes.specs.declared.read.ReadFault.{ReadFault}
use Rattle.docker_bytes.specs.declared.read.ReadFault.TheVariants.{Source, State, Memory}
use Rattle.docker_bytes.specs.FaultText.{fault_text}

-- the text of a read fault. For a fault of the state's text, this is the text of that fault, with
-- its offset
abbrev pub read_fault_text : ReadFault → List ℕ
read_fault_text Source = codes "the source failed"
read_fault_text (State fault) = fault_text fault
read_fault_text Memory = codes "want of memory"
