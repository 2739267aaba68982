-- The text that is printed for a fault in a state's text.
use Rattle.std.specs.Prelude.{ℕ, List, ◌++◌, codes, decimal}
use Rattle.docker_bytes.specs.declared.fault.StateFault.{StateFault}
use Rattle.state_text.specs.CauseText.{cause_text}

-- the text of a fault: its offset, then its cause. For example, the text of a fault at offset 12 is
-- `offset 12: `, followed by the text of the cause
abbrev pub fault_text : StateFault → List ℕ
fault_text fault = codes "offset " ++ decimal fault.at ++ codes ": " ++ cause_text fault.cause
