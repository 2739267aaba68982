-- How a job writes its output: to the output device, or to a file. For a file, the job makes a
-- draft, which is a new file. Once the draft holds the whole output, it replaces the old file.
use Rattle.std.specs.Prelude.{◌≡◌, ◌⊎◌, ℕ, Bool, List, Option, Some, None, Result, Ok, Err, ⊤}
use Rattle.docker_host.specs.Asked.{IsDropped, IsStored, IsUndrafted, IsUnplaced}
use Rattle.docker_host.specs.History.{Bytes, Event}
use Rattle.docker_office.specs.Faults.{IsReason, no_fault}
use Rattle.docker_office.specs.declared.fault.OfficeFault.{OfficeFault}
use Rattle.docker_cmd.specs.Prepared.{PreparedView, GainsOutput, GainsPart, IsOutputText, IsRefused, PrintsDocker}
use Rattle.docker_cmd.specs.Words.{Text}
use Rattle.docker_cmd.specs.Tasks.{output_of}
use Rattle.docker_program.specs.SourceNames.{stored_by}

-- the devices to which a job writes, before and after the job writes: the bytes that the output
-- device has taken, and the folder's history
pub record Written : Type 0 where
  pub output : Bytes
  pub output_now : Bytes
  pub before : List Event
  pub now : List Event

-- makes a value of `Written` from its parts
abbrev pub written : (output output_now : Bytes) (before now : List Event) → Written
written output output_now before now =
    record { output = output; output_now = output_now; before = before; now = now }

-- how a file is replaced. `look` is the position of the look on which the draft is based.
-- `names_bytes` says whether contracts can say which bytes were written to the folder's drafts
pub record Drafting : Type 0 where
  pub look : ℕ
  pub names_bytes : Bool

-- makes a value of `Drafting` from its parts
abbrev pub drafting : ℕ → Bool → Drafting
drafting look names_bytes = record { look = look; names_bytes = names_bytes }

-- a draft of the job's output replaced the file with this name
pub record StoresOutput (by : Drafting) (written : Written) (prepared : PreparedView)
    (name : Text) : Type 0 where
  pub text : List ℕ
  pub is : IsOutputText (output_of prepared.job.task) prepared.read text
  pub history : IsStored by.names_bytes name by.look text written.before written.now

-- replacing the file `name` with a draft of the job's output failed. The file now holds either the
-- output or what it held before
pub record MayStoreOutput (by : Drafting) (written : Written) (prepared : PreparedView)
    (name : Text) : Type 0 where
  pub text : List ℕ
  pub is : IsOutputText (output_of prepared.job.task) prepared.read text
  pub history : IsUnplaced by.names_bytes name by.look text written.before written.now

-- the job wrote its whole output. If the job prints, the output was added to what the output device
-- holds, and the output isn't a docker for a day that is refused. If the job writes a file, a draft of the output replaced
-- the file. Nothing else changed
abbrev pub WritesTo : Option Text → Drafting → Written → PreparedView → Type 0
WritesTo None by written prepared =
    GainsOutput prepared written.output written.output_now × (¬ IsRefused prepared)
    × (written.now ≡ written.before)
WritesTo (Some name) by written prepared =
    StoresOutput by written prepared name × (written.output_now ≡ written.output)

-- the job didn't write its whole output, because a device failed. If the job prints, the output
-- device gained a proper prefix of the output, which isn't a docker for a day that is refused. If
-- the job writes a file, no draft was made, or the draft was discarded, or replacing the file with
-- the draft failed. Nothing else changed
abbrev pub WritesPartTo : Option Text → Drafting → Written → PreparedView → Type 0
WritesPartTo None by written prepared =
    GainsPart prepared written.output written.output_now × (¬ IsRefused prepared)
    × (written.now ≡ written.before)
WritesPartTo (Some name) by written prepared =
    (IsUndrafted name by.look written.before written.now
    ⊎ IsDropped name by.look written.before written.now
    ⊎ MayStoreOutput by written prepared name) × (written.output_now ≡ written.output)

-- memory ran out before anything was written. If the job prints, there was no memory for the
-- docker, and the day of the docker isn't refused. If the job writes a file, there was no memory for a draft, and no draft was made
abbrev pub WantsToWriteTo : Option Text → Drafting → Written → PreparedView → Type 0
WantsToWriteTo None by written prepared =
    PrintsDocker prepared × (¬ IsRefused prepared) × (written.now ≡ written.before)
WantsToWriteTo (Some name) by written prepared =
    IsUndrafted name by.look written.before written.now

-- the job wrote its whole output, to the output device or to the file that the job writes
abbrev pub Writes : Drafting → Written → PreparedView → Type 0
Writes by written prepared = WritesTo (stored_by prepared.job) by written prepared

-- the job didn't write its whole output, because a device failed. The output goes to the output
-- device, or to the file that the job writes
abbrev pub WritesPart : Drafting → Written → PreparedView → Type 0
WritesPart by written prepared = WritesPartTo (stored_by prepared.job) by written prepared

-- memory ran out before the job wrote anything to the output device or to its file
abbrev pub WantsToWrite : Drafting → Written → PreparedView → Type 0
WantsToWrite by written prepared = WantsToWriteTo (stored_by prepared.job) by written prepared

-- the job would print a docker of a refused day, and the folder's history is unchanged
abbrev pub RefusesDay : Written → PreparedView → Type 0
RefusesDay written prepared = IsRefused prepared × (written.now ≡ written.before)

-- writing the job's output ended with this result
abbrev pub EndsWriting : Drafting → Written → PreparedView → Result ⊤ OfficeFault → Type 0
EndsWriting by written prepared (Ok done) = Writes by written prepared
EndsWriting by written prepared (Err fault) = IsReason (record no_fault {
  lapsed = RefusesDay written prepared × (written.output_now ≡ written.output);
  sink = WritesPart by written prepared;
  memory = WantsToWrite by written prepared × (written.output_now ≡ written.output);
}) fault
