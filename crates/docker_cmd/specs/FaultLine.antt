-- How a fault is reported: the exit status, and one line on standard error.
use Rattle.std.specs.Prelude.{◌≡◌, ℕ, List, ◌++◌, Result, Ok, Err, codes, decimal}
use Rattle.cif_device.specs.Device.{CountsFailure}
use Rattle.cif_file.specs.declared.fault.FileFault.{FileFault}
use Rattle.cif_change.specs.Cause.{cause_text}
use Rattle.state_text.specs.CauseText as state_text
use Rattle.docker_bytes.specs.declared.fault.StateFault.{StateFault}
use Rattle.docker_cmd.specs.Tasks.{usage_line}
use Rattle.docker_cmd.specs.declared.job_fault.JobFault.TheVariants as job
use Rattle.docker_office.specs.declared.fault.OfficeFault.{OfficeFault}
use Rattle.docker_office.specs.declared.fault.OfficeFault.TheVariants as office
use Rattle.docker_cmd.specs.declared.fault.Fault.{Fault}
use Rattle.docker_cmd.specs.declared.fault.Fault.TheVariants.{Job, Office}

-- the exit status for a fault: 1 for refused input, 2 for usage, 3 for out of memory, 4 for a
-- failed device
abbrev pub status_of : Fault → ℕ
status_of (Job job.Usage) = 2
status_of (Job job.Memory) = 3
status_of (Job job.Source) = 4
status_of (Office (office.File fault)) = 1
status_of (Office (office.State fault)) = 1
status_of (Office office.Lapsed) = 1
status_of (Office office.Source) = 4
status_of (Office office.Sink) = 4
status_of (Office office.Memory) = 3

-- the exit status if a call to an office has this result: 0 on success, otherwise the fault's
-- status
abbrev pub result_status : {A : Type 0} → Result A OfficeFault → ℕ
result_status (Ok answer) = 0
result_status (Err fault) = status_of (Office fault)

-- the failure count of a device grew by one if the exit status is 4, and is unchanged otherwise
abbrev pub IsCounted : (status before after : ℕ) → Type 0
IsCounted status before after = CountsFailure (status ≡ 4) before after

-- the line that reports a refused file
abbrev pub file_line : FileFault → List ℕ
file_line fault = codes "docker: file refused: record " ++ decimal fault.number ++ codes ": " ++ cause_text fault.cause ++ codes "\n"

-- the line that reports a refused state
abbrev pub state_line : StateFault → List ℕ
state_line fault =
    codes "docker: state refused: offset " ++ decimal fault.at ++ codes ": " ++ state_text.cause_text fault.cause ++ codes "\n"

-- the line that reports a refused day: a day before the third day after the horizon
abbrev pub day_line : List ℕ
day_line = codes "docker: day refused: before horizon plus three days\n"

-- the line that reports that memory ran out
abbrev pub memory_line : List ℕ
memory_line = codes "docker: want of memory\n"

-- the line that reports a failed device
abbrev pub device_line : List ℕ
device_line = codes "docker: device failed\n"

-- the line that reports this fault
abbrev pub fault_line : Fault → List ℕ
fault_line (Job job.Usage) = usage_line
fault_line (Job job.Memory) = memory_line
fault_line (Job job.Source) = device_line
fault_line (Office (office.File fault)) = file_line fault
fault_line (Office (office.State fault)) = state_line fault
fault_line (Office office.Lapsed) = day_line
fault_line (Office office.Source) = device_line
fault_line (Office office.Sink) = device_line
fault_line (Office office.Memory) = memory_line
