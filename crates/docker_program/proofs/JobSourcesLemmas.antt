-- What was read from a job's files and from standard input is what the job's sources held.
use Rattle.cif_laws.proofs.Common.{◌≡◌, List, [], ◌∷◌, ◌++◌, refl, append_assoc, inr, Ok, Err, Some, rules, Result}
use Rattle.docker_host.specs.History.{Bytes, Event}
use Rattle.docker_host.specs.Opening.{one_of}
use Rattle.docker_host.specs.declared.folder.OpenFault.{OpenFault}
use Rattle.docker_office.specs.declared.fault.OfficeFault.{OfficeFault}
use Rattle.docker_office.specs.declared.fault.OfficeFault.TheVariants as office
use Rattle.docker_cmd.specs.Job.{JobView}
use Rattle.docker_cmd.specs.Prepared.{PreparedView, ReadsInOrder}
use Rattle.docker_cmd.specs.Words.{Text}
use Rattle.docker_program.specs.SourceNames.{SourceNames, no_source, standard_input, one_file, file_and_input, names_of}
use Rattle.docker_program.specs.Sources.{AreRead, Asking, FailsToOpen, IsOpened, ReadsBy, ReadsNamed, asking}

-- ---- appending to a history

-- if a history gained `events` and then one more event, it gained the list of all these events
pub one_more : (old before now events : List Event) (event : Event) → before ≡ old ++ events → now ≡ before ++ event ∷ []
    → now ≡ old ++ (events ++ event ∷ [])
one_more = search (rules, append_assoc)

-- ---- what each result implies

-- if the sources of a job were read, the job's files had been opened
opened_by : (asked : Asking) (job : JobView) (result : Result PreparedView OfficeFault) → AreRead (names_of job) asked job result → IsOpened asked job
opened_by = search rules

-- if opening and reading the sources of a job ended with a result, `ReadsNamed` allows this result
by_reading : (asked : Asking) (job : JobView) (result : Result PreparedView OfficeFault) → AreRead (names_of job) asked job result
    → ReadsNamed asked job result
unfolding opened_by
by_reading asked job (Ok prepared) read = record {
  opened = opened_by asked job (Ok prepared) read;
  job_is = read.reads.ends.0.0;
  read = read.reads.ends.0.1;
  to_end = read.reads.ends.1;
}
by_reading asked job (Err (office.File fault)) read = (opened_by asked job (Err (office.File fault)) read, read.reads.ends)
by_reading asked job (Err (office.State fault)) read = (opened_by asked job (Err (office.State fault)) read, read.reads.ends)
by_reading asked job (Err office.Source) read = inr (opened_by asked job (Err office.Source) read)
by_reading asked job (Err office.Memory) read = inr (opened_by asked job (Err office.Memory) read, read.reads.ends)
by_reading asked job _ read = read.reads.ends

-- if a file of a job couldn't be opened, `ReadsNamed` allows the fault that names the cause:
-- `Source` if a device failed, or `Memory` if memory ran out
by_cause : (asked : Asking) (job : JobView) (cause : OpenFault) → FailsToOpen (names_of job) asked.before asked.now → asked.left ≡ asked.rest
    → ReadsNamed asked job (Err (one_of office.Source office.Memory cause))
by_cause = search rules

by_result : (asked : Asking) (job : JobView) (result : Result PreparedView OfficeFault) → ReadsBy (names_of job) asked job result
    → ReadsNamed asked job result
by_result = search (rules, by_cause, by_reading)

-- suppose that opening and reading the sources in `names` ended with a result. If the words of a
-- job name these sources, `ReadsNamed` allows this result for the job
pub reads_named : (names : SourceNames) (asked : Asking) (job : JobView) (result : Result PreparedView OfficeFault) → names ≡ names_of job
    → ReadsBy names asked job result → ReadsNamed asked job result
reads_named = search (rules, by_result)

-- ---- what is read from each kind of source

-- a job without a source reads nothing
pub reads_none : (history : List Event) (rest first first_left second second_left : Bytes) (job : JobView) (result : Result PreparedView OfficeFault)
    → first ≡ Some [] → second ≡ Some [] → ReadsInOrder job first first_left second second_left result
    → ReadsBy no_source (asking history history rest rest) job result
reads_none history rest first first_left second second_left job result none none_behind reads =
    inr (record {
      read = record { first = first; first_left = first_left; second = second; second_left = second_left };
      history = refl;
      others = (none, none_behind, refl);
      reads = reads;
    })

-- a job whose only source is standard input reads standard input
pub reads_stdin : (history : List Event) (rest left second second_left : Bytes) (job : JobView) (result : Result PreparedView OfficeFault)
    → second ≡ Some [] → ReadsInOrder job rest left second second_left result
    → ReadsBy standard_input (asking history history rest left) job result
reads_stdin history rest left second second_left job result none_behind reads =
    inr (record {
      read = record { first = rest; first_left = left; second = second; second_left = second_left };
      history = refl;
      others = (refl, refl, none_behind);
      reads = reads;
    })

-- a job with one file and no other source reads only the file
pub reads_alone : (name : Text) (before now : List Event) (rest second second_left : Bytes) (job : JobView)
    (result : Result PreparedView OfficeFault) → second ≡ Some [] → ReadsBy (file_and_input name) (asking before now second second_left) job result
    → ReadsBy (one_file name) (asking before now rest rest) job result
reads_alone = search rules

-- ---- how failures are counted
