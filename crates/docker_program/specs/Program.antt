-- What the program does when it is started with these words, and how its devices change.
use Rattle.std.specs.Prelude.{◌≡◌, ◌≢◌, ◌↔◌, ℕ, ◌+◌, Bool, List, [], ◌∷◌, length, map, String, string_bytes, Option, Some, None, Result, Ok, Err, ◌⊎◌}
use Rattle.std.specs.Global.{Global, Vec}
use Rattle.cif_device.specs.Device.{IsNotPassed}
use Rattle.docker_host.specs.History.{Bytes, Event}
use Rattle.docker_host.specs.FaultSink.{FaultsView, TellsText, faults_of}
use Rattle.docker_host.specs.Host.{HostView}
use Rattle.docker_office.specs.Faults.{IsReason, no_fault}
use Rattle.docker_office.specs.declared.fault.OfficeFault.TheVariants as office
use Rattle.docker_cmd.specs.Words.{Text}
use Rattle.docker_cmd.specs.Job.{JobView, IsJobOf, NameNoJob}
use Rattle.docker_cmd.specs.JobLine.{ReadsAtMost, ReadsJob, HasJob, HasNoJob}
use Rattle.docker_cmd.specs.declared.job_fault.JobFault.{JobFault}
use Rattle.docker_cmd.specs.declared.job_fault.JobFault.TheVariants as job
use Rattle.docker_cmd.specs.Prepared.{PreparedView}
use Rattle.docker_cmd.specs.FaultLine.{IsCounted, fault_line, status_of}
use Rattle.docker_cmd.specs.declared.fault.Fault.{Fault}
use Rattle.docker_cmd.specs.declared.fault.Fault.TheVariants.{Job, Office}
use Rattle.docker_program.specs.SourceNames.{stored_by}
use Rattle.docker_program.specs.Sources.{Asking, IsNotOpened, IsOpened, IsPrepared, RefusesFile, RefusesState, WantsForSources, asking, with_look_at}
use Rattle.docker_program.specs.Writing.{Drafting, RefusesDay, WantsToWrite, Writes, WritesPart, Written, drafting, written}

-- if there are words, they name this job. Otherwise the first line of standard input names the job.
-- `rest` has the bytes that are left in standard input once the job is found
abbrev pub AsksFor : List Text → Bytes → JobView → Bytes → Type 0
AsksFor [] input job rest = ReadsJob input job rest
AsksFor (word ∷ words) input job rest = IsJobOf (word ∷ words) job × (rest ≡ input)

-- if there are words, they name no job. Otherwise the first line of standard input names no job
abbrev pub AskForNone : List Text → Bytes → Type 0
AskForNone [] input = HasNoJob input
AskForNone (word ∷ words) input = NameNoJob (word ∷ words)

-- if there are words, they name a job. Otherwise the first line of standard input names a job
abbrev pub AskForSome : List Text → Bytes → Type 0
AskForSome [] input = HasJob input
AskForSome (word ∷ words) input = ¬ NameNoJob (word ∷ words)

-- if there are words, the search for a job read nothing from standard input; otherwise it read at
-- most 256 bytes
abbrev pub AsksAtMost : List Text → Bytes → Bytes → Type 0
AsksAtMost [] input rest = ReadsAtMost 256 input rest
AsksAtMost (word ∷ words) input rest = rest ≡ input

-- the words or standard input named a job, and `Holds` is true of the job and of the bytes that
-- were then left in standard input
pub record IsAsked (words : List Text) (input : Bytes)
    (Holds : JobView → Bytes → Type 0) : Type 0 where
  pub job : JobView
  pub rest : Bytes
  pub asks : AsksFor words input job rest
  pub at_most : AsksAtMost words input rest
  pub holds : Holds job rest

-- no job was found, `Why` holds, and the folder's history is unchanged
pub record IsNotAsked (words : List Text) (old new : HostView) (Why : Type 0) : Type 0 where
  pub why : Why
  pub at_most : AsksAtMost words old.input new.input
  pub unasked : new.history ≡ old.history

-- the changes to the folder and to standard input while a job's sources were opened, read and
-- closed. `now` is the folder's history after the closing. If the job writes a file, the history
-- before the opening includes the look at this file
abbrev pub reading : HostView → HostView → JobView → Bytes → List Event → Asking
reading old new job rest now =
    asking (with_look_at (stored_by job) old.history) now rest new.input

-- the program ended after the job's sources were opened, read and closed, or after a file couldn't
-- be opened. `Holds` is true of the changes to the folder and to standard input until then
abbrev pub EndsAfterReading : HostView → HostView → (Asking → JobView → Type 0)
    → JobView → Bytes → Type 0
EndsAfterReading old new Holds job rest = Holds (reading old new job rest new.history) job

-- how a job replaces its file: the draft is based on the look with which the program began
abbrev pub from_first_look : Bool → HostView → Drafting
from_first_look names_bytes old = drafting (length old.history) names_bytes

-- the changes to the output device since the program was started, and the events that the folder
-- gained after the history `before`
abbrev pub writing : HostView → HostView → List Event → Written
writing old new before = written old.output new.output before new.history

-- the job read all its sources without a fault. `Holds` is true of the changes that the job then
-- made by writing its output
pub record HasRead (old new : HostView) (Holds : Written → PreparedView → Type 0) (job : JobView)
    (rest : Bytes) : Type 0 where
  pub prepared : PreparedView
  -- the history after all sources were read and closed
  pub read : List Event
  pub is : IsPrepared (reading old new job rest read) job prepared
  pub holds : Holds (writing old new read) prepared

-- the job couldn't read its sources: a file couldn't be opened, or a device failed while the
-- sources were read
abbrev pub FailsToRead : Asking → JobView → Type 0
FailsToRead asked job = IsNotOpened asked job ⊎ IsOpened asked job

-- memory ran out while a file was opened, or while the job's sources were read
abbrev pub WantsToRead : Asking → JobView → Type 0
WantsToRead asked job = IsNotOpened asked job ⊎ WantsForSources asked job

-- memory ran out while a file was opened, while the sources were read, or while the output was made
abbrev pub WantsMemory : Bool → HostView → HostView → JobView → Bytes → Type 0
WantsMemory names_bytes old new job rest = EndsAfterReading old new WantsToRead job rest
    ⊎ HasRead old new (WantsToWrite (from_first_look names_bytes old)) job rest

-- the reason why the program ended with this fault before it wrote anything. For example, with the
-- fault `Usage`, neither the words nor standard input named a job
abbrev pub IsWhy : List Text → Bool → HostView → HostView → Fault → Type 0
IsWhy words names_bytes old new (Job job.Usage) =
    IsNotAsked words old new (AskForNone words old.input)
IsWhy words names_bytes old new (Job job.Memory) =
    IsNotAsked words old new (AskForSome words old.input)
IsWhy words names_bytes old new (Job job.Source) = IsNotAsked words old new (words ≡ [])
IsWhy words names_bytes old new (Office fault) = IsReason (record no_fault {
  file = λ why. IsAsked words old.input (EndsAfterReading old new (RefusesFile why));
  state = λ why. IsAsked words old.input (EndsAfterReading old new (RefusesState why));
  lapsed = IsAsked words old.input (HasRead old new RefusesDay);
  source = IsAsked words old.input (EndsAfterReading old new FailsToRead);
  memory = IsAsked words old.input (WantsMemory names_bytes old new);
}) fault

-- the program ended with this fault, if any. Without a fault, the job's output was written. With
-- `Sink`, the output device or the folder failed, and at most a part of the output was written.
-- With any other fault, nothing was written
abbrev pub EndsBy : List Text → Bool → HostView → HostView → Option Fault → Type 0
EndsBy words names_bytes old new None =
    IsAsked words old.input (HasRead old new (Writes (from_first_look names_bytes old)))
EndsBy words names_bytes old new (Some (Office office.Sink)) =
    IsAsked words old.input (HasRead old new (WritesPart (from_first_look names_bytes old)))
EndsBy words names_bytes old new (Some fault) =
    IsWhy words names_bytes old new fault × (new.output ≡ old.output)

-- the exit status: 0 without a fault, otherwise the fault's status
abbrev pub ending_status : Option Fault → ℕ
ending_status None = 0
ending_status (Some fault) = status_of fault

-- without a fault, the sink of faults gained nothing. Otherwise it gained the line that reports the
-- fault, or a proper prefix of this line if the sink failed
abbrev pub Tells : Option Fault → (old new : FaultsView) → Type 0
Tells None old new = (new.taken ≡ old.taken) × (new.failures ≡ old.failures)
Tells (Some fault) old new = TellsText (fault_line fault) old new

-- the sum of the failure counts of the input, the folder and the output
abbrev pub failures_of : HostView → ℕ
failures_of host = host.input_failures + host.folder_failures + host.output_failures

-- the program was started with these words, and ended with this status. The fields give the fault
-- that ended the program (if there was one), its requests to the folder, and its output. Standard
-- input wasn't read after it had reported its end.
-- `names_bytes` says whether contracts can say which bytes were written to the folder's drafts
pub record Performs (words : List Text) (names_bytes : Bool) (old new : HostView)
    (status : ℕ) : Type 0 where
  pub ending : Option Fault
  pub ends : EndsBy words names_bytes old new ending
  pub status_is : status ≡ ending_status ending
  pub tells : Tells ending (faults_of old) (faults_of new)
  pub counted : IsCounted status (failures_of old) (failures_of new)
  pub not_passed : IsNotPassed old.ended old.passed new.passed

-- the bytes of each of these words
abbrev pub word_bytes : List (String Global) → List Text
word_bytes = map (λ word. string_bytes word)

-- the program's words couldn't be read, because of this fault. The fault was reported to the sink
-- of faults, and nothing else changed
pub record HasNoWords (fault : JobFault) (old new : HostView) (status : ℕ) : Type 0 where
  pub untouched : new ≡ record old { faults = new.faults; faults_failures = new.faults_failures }
  pub status_is : status ≡ status_of (Job fault)
  pub tells : TellsText (fault_line (Job fault)) (faults_of old) (faults_of new)

-- the program was started, and ended with this status. `given` has its words, or the fault because
-- of which they couldn't be read
abbrev pub PerformsGiven : (given : Result (Vec (String Global)) JobFault) → Bool → HostView → HostView
    → ℕ → Type 0
PerformsGiven (Ok words) names_bytes old new status =
    Performs (word_bytes words.items) names_bytes old new status
PerformsGiven (Err fault) names_bytes old new status = HasNoWords fault old new status

-- if there are words, the status is 2 (usage) if and only if the words name no job
abbrev pub IsUsageStatus : List Text → ℕ → Type 0
IsUsageStatus words status = words ≢ [] → (status ≡ 2) ↔ NameNoJob words

-- the fault of a result, or `None` if the call succeeded
abbrev pub fault_in : {A : Type 0} → Result A Fault → Option Fault
fault_in (Ok answer) = None
fault_in (Err fault) = Some fault
