-- The requests that a job makes to the folder before it writes, and what its sources held.
use Rattle.std.specs.Prelude.{◌≡◌, ◌⊎◌, List, [], ◌∷◌, ◌++◌, Option, Some, None, Result, Ok, Err}
use Rattle.docker_host.specs.History.{Bytes, Event, looked, opened, unopened, closed}
use Rattle.docker_host.specs.Opening.{one_of}
use Rattle.cif_file.specs.declared.fault.FileFault.{FileFault}
use Rattle.docker_cmd.specs.Job.{JobView}
use Rattle.docker_cmd.specs.Prepared.{PreparedView, HasReadToEnd, IsReadOf, ReadsFewOfFirst, ReadsFewOfSecond}
use Rattle.docker_cmd.specs.Prepared.{ReadsInOrder, RefusesFileOf, RefusesStateOf, WantsFor}
use Rattle.docker_cmd.specs.Words.{Text}
use Rattle.docker_cmd.specs.Tasks.{sources_of}
use Rattle.docker_program.specs.SourceNames.{SourceNames, no_source, standard_input, one_file, file_and_input, two_files, names_of}
use Rattle.docker_host.specs.declared.folder.OpenFault.{OpenFault}
use Rattle.docker_bytes.specs.declared.fault.StateFault.{StateFault}
use Rattle.docker_office.specs.Faults.{IsReason, no_fault}
use Rattle.docker_office.specs.declared.fault.OfficeFault.{OfficeFault}
use Rattle.docker_office.specs.declared.fault.OfficeFault.TheVariants as office

-- the bytes of a job's two sources: the bytes that each held before it was read, and the bytes that
-- are left in it. For a file, these are the bytes that it held when it was opened, and the bytes
-- that were left when it was closed
pub record SourcesRead : Type 0 where
  pub first : Bytes
  pub first_left : Bytes
  pub second : Bytes
  pub second_left : Bytes

-- the history after a look at the file with this name. If there is no name, the history is
-- unchanged
abbrev pub with_look_at : Option Text → List Event → List Event
with_look_at None history = history
with_look_at (Some name) history = history ++ looked name ∷ []

-- the history after the files among these sources were read. Each was opened once, in the order of
-- the words. Then all were closed in the same order
abbrev pub with_files_read : SourceNames → SourcesRead → List Event → List Event
with_files_read no_source read history = history
with_files_read standard_input read history = history
with_files_read (one_file name) read history =
    history ++ opened name read.first ∷ closed read.first_left ∷ []
with_files_read (file_and_input name) read history =
    history ++ opened name read.first ∷ closed read.first_left ∷ []
with_files_read (two_files name other) read history =
    history ++ opened name read.first ∷ opened other read.second
    ∷ closed read.first_left ∷ closed read.second_left ∷ []

-- the bytes of the sources that aren't files. If standard input is a source, it held the bytes
-- `rest`, and the bytes `left` remain in it; otherwise standard input is unchanged. A source that
-- the job doesn't have counts as empty
abbrev pub AreOthers : SourceNames → SourcesRead → (rest left : Bytes) → Type 0
AreOthers no_source read rest left =
    (read.first ≡ Some []) × (read.second ≡ Some []) × (left ≡ rest)
AreOthers standard_input read rest left =
    (read.first ≡ rest) × (read.first_left ≡ left) × (read.second ≡ Some [])
AreOthers (one_file name) read rest left = (read.second ≡ Some []) × (left ≡ rest)
AreOthers (file_and_input name) read rest left =
    (read.second ≡ rest) × (read.second_left ≡ left)
AreOthers (two_files name other) read rest left = left ≡ rest

-- a file among these sources couldn't be opened. If this was the second file, the first file had
-- been opened, and was then closed unread. The history has no other new events
abbrev pub FailsToOpen : SourceNames → (before now : List Event) → Type 0
FailsToOpen no_source before now = ⊥
FailsToOpen standard_input before now = ⊥
FailsToOpen (one_file name) before now = now ≡ before ++ unopened name ∷ []
FailsToOpen (file_and_input name) before now = now ≡ before ++ unopened name ∷ []
FailsToOpen (two_files name other) before now = (now ≡ before ++ unopened name ∷ [])
    ⊎ ((bytes : Bytes) × (now ≡ before ++ opened name bytes ∷ unopened other ∷ closed bytes ∷ []))

-- what happened while a job's sources were opened and read: the folder's history before and after,
-- and the bytes of standard input before and after
pub record Asking : Type 0 where
  pub before : List Event
  pub now : List Event
  pub rest : Bytes
  pub left : Bytes

-- makes a value of `Asking` from its parts
abbrev pub asking : (before now : List Event) (rest left : Bytes) → Asking
asking before now rest left = record { before = before; now = now; rest = rest; left = left }

-- a file that the job reads couldn't be opened, and nothing was read
pub record IsNotOpened (asked : Asking) (job : JobView) : Type 0 where
  pub fails : FailsToOpen (names_of job) asked.before asked.now
  pub unread : asked.left ≡ asked.rest

-- all files that the job reads were opened, and were closed after the sources were read. The
-- history has no other new events. Each source was read no further than the result needs
pub record IsOpened (asked : Asking) (job : JobView) : Type 0 where
  pub read : SourcesRead
  pub history : asked.now ≡ with_files_read (names_of job) read asked.before
  pub others : AreOthers (names_of job) read asked.rest asked.left
  pub first_few : ReadsFewOfFirst (sources_of job.task) read.first read.first_left
  pub second_few : ReadsFewOfSecond (sources_of job.task) read.first read.second read.second_left

-- a source of the job should have held a file, but its text has this fault
abbrev pub RefusesFile : FileFault → Asking → JobView → Type 0
RefusesFile fault asked job = (opened : IsOpened asked job)
    × RefusesFileOf (sources_of job.task) opened.read.first opened.read.second fault

-- a source of the job should have held a state, but its text has this fault
abbrev pub RefusesState : StateFault → Asking → JobView → Type 0
RefusesState fault asked job = (opened : IsOpened asked job)
    × RefusesStateOf (sources_of job.task) opened.read.first opened.read.second fault

-- memory ran out while the sources of the job were read
abbrev pub WantsForSources : Asking → JobView → Type 0
WantsForSources asked job = (opened : IsOpened asked job)
    × WantsFor (sources_of job.task) opened.read.first opened.read.first_left
    opened.read.second opened.read.second_left

-- the job read all its sources without a fault, and `prepared` is the result
pub record IsPrepared (asked : Asking) (job : JobView) (prepared : PreparedView) : Type 0 where
  pub opened : IsOpened asked job
  pub job_is : prepared.job ≡ job
  pub read : IsReadOf job.task opened.read.first opened.read.second prepared.read
  pub to_end : HasReadToEnd (sources_of job.task) opened.read.first_left opened.read.second_left

-- opening and reading the sources of a job ended with this result
abbrev pub ReadsNamed : Asking → JobView → Result PreparedView OfficeFault → Type 0
ReadsNamed asked job (Ok prepared) = IsPrepared asked job prepared
ReadsNamed asked job (Err fault) = IsReason (record no_fault {
  file = λ why. RefusesFile why asked job;
  state = λ why. RefusesState why asked job;
  source = IsNotOpened asked job ⊎ IsOpened asked job;
  memory = IsNotOpened asked job ⊎ WantsForSources asked job;
}) fault

-- a file among these sources couldn't be opened, and nothing was read. The result is the fault that
-- prevented the opening
pub record AreNotOpened (names : SourceNames) (asked : Asking)
    (result : Result PreparedView OfficeFault) : Type 0 where
  pub cause : OpenFault
  pub is : result ≡ Err (one_of office.Source office.Memory cause)
  pub fails : FailsToOpen names asked.before asked.now
  pub unread : asked.left ≡ asked.rest

-- the files among these sources were opened. Then reading the sources of the job ended with this
-- result, and the files were closed
pub record AreRead (names : SourceNames) (asked : Asking) (job : JobView)
    (result : Result PreparedView OfficeFault) : Type 0 where
  pub read : SourcesRead
  pub history : asked.now ≡ with_files_read names read asked.before
  pub others : AreOthers names read asked.rest asked.left
  pub reads : ReadsInOrder job read.first read.first_left read.second read.second_left result

-- opening and reading these sources ended with this result. Either a file couldn't be opened, or
-- all files were opened, and were closed after the sources were read
abbrev pub ReadsBy : SourceNames → Asking → JobView → Result PreparedView OfficeFault → Type 0
ReadsBy names asked job result = AreNotOpened names asked result ⊎ AreRead names asked job result
