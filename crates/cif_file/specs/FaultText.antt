-- The printed texts of faults.
use Rattle.std.specs.Prelude.{ℕ, List, ◌++◌, codes, decimal}
use Rattle.cif_change.specs.Cause.{cause_text}
use Rattle.cif_file.specs.declared.fault.FileFault.{FileFault}
use Rattle.cif_file.specs.declared.fault.FileReadFault.{FileReadFault}
use Rattle.cif_file.specs.declared.fault.FileReadFault.TheVariants.{Source, File}
use Rattle.cif_file.specs.declared.fault.FileReadFault.TheVariants as read

-- the printed text of a file's fault: the record's number and the cause, such as `record 3: Field
-- 10`
abbrev pub fault_text : FileFault → List ℕ
fault_text fault = codes "record " ++ decimal fault.number ++ codes ": " ++ cause_text fault.cause

-- the printed reason why no file could be read from a source
abbrev pub read_fault_text : FileReadFault → List ℕ
read_fault_text Source = codes "the source failed"
read_fault_text (File fault) = fault_text fault
read_fault_text read.Memory = codes "want of memory"
