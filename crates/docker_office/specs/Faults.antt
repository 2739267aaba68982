-- The faults of an office: which fault an office reports if a call that it makes has failed, and
-- which faults each operation can report.
use Rattle.std.specs.Prelude.{Option, Some, None, ⊤}
use Rattle.cif_change.specs.Cause.{cause_meant}
use Rattle.cif_file.specs.declared.fault.FileFault.{FileFault}
use Rattle.cif_file.specs.declared.fault.FileReadFault as files
use Rattle.cif_file.specs.declared.fault.FileReadFault.TheVariants as file_faults
use Rattle.docker_bytes.specs.declared.fault.StateFault.{StateFault}
use Rattle.docker_bytes.specs.declared.read.ReadFault as states
use Rattle.docker_bytes.specs.declared.read.ReadFault.TheVariants as state_faults
use Rattle.docker_day.specs.declared.fault.DockerFault as dockers
use Rattle.docker_day.specs.declared.fault.DockerFault.TheVariants as docker_faults
use Rattle.docker_model.specs.file.FileFault.{FileCause}
use Rattle.docker_office.specs.declared.fault.OfficeFault.{OfficeFault}
use Rattle.docker_office.specs.declared.fault.OfficeFault.TheVariants.{File, State, Lapsed, Source, Sink, Memory}

-- the office's fault if a file couldn't be read because of this fault
abbrev pub office_fault_of_file : files.FileReadFault → OfficeFault
office_fault_of_file file_faults.Source = Source
office_fault_of_file (file_faults.File fault) = File fault
office_fault_of_file file_faults.Memory = Memory

-- the office's fault if a state couldn't be read because of this fault
abbrev pub office_fault_of_state : states.ReadFault → OfficeFault
office_fault_of_state state_faults.Source = Source
office_fault_of_state (state_faults.State fault) = State fault
office_fault_of_state state_faults.Memory = Memory

-- the office's fault if a docker couldn't be made because of this fault
abbrev pub office_fault_of_docker : dockers.DockerFault → OfficeFault
office_fault_of_docker docker_faults.Lapsed = Lapsed
office_fault_of_docker docker_faults.Memory = Memory

-- ---- the reasons for the faults

-- for each fault of an office, what holds if an operation reports this fault. If the reason is ⊥, the
-- operation can't report the fault
pub record Reasons : Type 1 where
  pub file : FileFault → Type 0
  pub state : StateFault → Type 0
  pub lapsed : Type 0
  pub source : Type 0
  pub sink : Type 0
  pub memory : Type 0

-- the reasons of an operation that reports no fault. Every other operation replaces the reasons of the
-- faults that it can report
abbrev pub no_fault : Reasons
no_fault = record { file = λ fault. ⊥; state = λ fault. ⊥; lapsed = ⊥; source = ⊥; sink = ⊥; memory = ⊥ }

-- says that an operation with these reasons can report this fault, and that the fault's reason holds
abbrev pub IsReason : Reasons → OfficeFault → Type 0
IsReason reasons (File fault) = reasons.file fault
IsReason reasons (State fault) = reasons.state fault
IsReason reasons Lapsed = reasons.lapsed
IsReason reasons Source = reasons.source
IsReason reasons Sink = reasons.sink
IsReason reasons Memory = reasons.memory

-- says that the fault of a file's text can have this cause. Every cause is possible except `None`,
-- which means that memory ran out
abbrev pub IsTextCause : Option FileCause → Type 0
IsTextCause None = ⊥
IsTextCause (Some cause) = ⊤

-- ---- the faults that each operation of an office can report

-- a call that reads a file
abbrev pub IsOfFile : OfficeFault → Type 0
IsOfFile = IsReason (record no_fault { file = λ fault. ⊤; source = ⊤; memory = ⊤ })

-- a call that reads a state
abbrev pub IsOfState : OfficeFault → Type 0
IsOfState = IsReason (record no_fault { state = λ fault. ⊤; source = ⊤; memory = ⊤ })

-- a call that prints a docker
abbrev pub IsOfDocker : OfficeFault → Type 0
IsOfDocker = IsReason (record no_fault { lapsed = ⊤; sink = ⊤; memory = ⊤ })

-- an event of a run. No event reports that memory ran out as the fault of a file's text
abbrev pub IsRunRefusal : OfficeFault → Type 0
IsRunRefusal = IsReason (record no_fault { file = λ fault. IsTextCause (cause_meant fault.cause); memory = ⊤ })
