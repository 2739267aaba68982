-- What the office of a command knows: files and a horizon. Each state, docker or list of files that
-- a command stores or prints is made from the summary of the known files and the known horizon. The
-- same holds for each state that a desk saves.
use Rattle.std.specs.Prelude.{◌≡◌, ◌⊎◌, ◌<◌, ℕ, Bool, List, [], ◌∷◌, ◌++◌, length, map, slice_index_or, Some, None, ⊤}
use Rattle.docker_model.specs.state.Lapse.{IsDayRefused}
use Rattle.docker_model.specs.state.State.{State, live_table}
use Rattle.docker_model.specs.state.StateText.{Format, dks_1, dks_2}
use Rattle.docker_model.specs.docker.DockerText.{IsDockerText, files_text}
use Rattle.docker_model.specs.run.Run.{Known, IsMessageOf, IsStateOf, nothing, united}
use Rattle.docker_model.specs.run.Knowledge.{IsGoodKnown}
use Rattle.cif_device.specs.Device.{Takes}
use Rattle.docker_host.specs.Asked.{IsStored, IsUnplaced}
use Rattle.docker_host.specs.History.{Bytes, Event, placed, unplaced}
use Rattle.docker_host.specs.Host.{HostView}
use Rattle.docker_cmd.specs.Job.{JobView}
use Rattle.docker_cmd.specs.Prepared.{HasReadToEnd, IsOutputText, IsReadOf, IsRefusedDocker, ReadView, ReadsFewOfFirst, ReadsFewOfSecond}
use Rattle.docker_cmd.specs.Saved.{Gain, HoldsFile, HoldsVersion, IsSaved, file_gained, horizon_gained, version_gained}
use Rattle.docker_cmd.specs.Tasks.{TaskView, new_task, check_task, day_task, take_task, merge_task}
use Rattle.docker_cmd.specs.Tasks.{print_task, files_task, horizon_task, migrate_task, output_of, sources_of}
use Rattle.docker_cmd.specs.Words.{Text}
use Rattle.docker_program.specs.SourceNames.{names_of, stored_by}
use Rattle.docker_program.specs.Sources.{AreOthers, SourcesRead, with_files_read, with_look_at}
use Rattle.docker_program.specs.Program.{AsksFor, Performs}

-- ---- what one command does

-- the history after a command has opened, read and closed its sources. If its job writes a file,
-- the first new event is a look at this file. The next new events are the openings and closings of
-- the files that the job reads
abbrev pub history_read : List Event → JobView → SourcesRead → List Event
history_read before job read =
    with_files_read (names_of job) read (with_look_at (stored_by job) before)

-- a command that was run: its words, and its devices before and after. `names_bytes` says whether
-- contracts can say which bytes were written to the folder's drafts
pub record Run : Type 0 where
  pub words : List Text
  pub names_bytes : Bool
  pub old : HostView
  pub new : HostView

-- a command read all sources of its job, each no further than the result needs, and this is the
-- text of the job's output. If standard input is a source, it held the bytes that were left after
-- the job line
pub record Reads (run : Run) (job : JobView) (read : SourcesRead) (text : List ℕ) : Type 0 where
  pub rest : Bytes
  pub asks : AsksFor run.words run.old.input job rest
  pub others : AreOthers (names_of job) read rest run.new.input
  pub first_few : ReadsFewOfFirst (sources_of job.task) read.first read.first_left
  pub second_few : ReadsFewOfSecond (sources_of job.task) read.first read.second read.second_left
  pub to_end : HasReadToEnd (sources_of job.task) read.first_left read.second_left
  pub what : ReadView
  pub is_read : IsReadOf job.task read.first read.second what
  pub is_text : IsOutputText (output_of job.task) what text

-- a command stored this text: a draft with this text replaced the file that the job writes
pub record Stores (run : Run) (job : JobView) (read : SourcesRead) (text : List ℕ) : Type 0 where
  pub reads : Reads run job read text
  pub name : Text
  pub stored : stored_by job ≡ Some name
  pub history : IsStored run.names_bytes name (length run.old.history) text
      (history_read run.old.history job read) run.new.history
  pub unprinted : run.new.output ≡ run.old.output

-- a command may have stored this text: replacing the job's file with a draft of this text failed.
-- The file now holds either this text or what it held before
pub record MayStore (run : Run) (job : JobView) (read : SourcesRead) (text : List ℕ) : Type 0 where
  pub reads : Reads run job read text
  pub name : Text
  pub stored : stored_by job ≡ Some name
  pub history : IsUnplaced run.names_bytes name (length run.old.history) text
      (history_read run.old.history job read) run.new.history
  pub unprinted : run.new.output ≡ run.old.output

-- a command printed this text. The text isn't a docker of a refused day
pub record Prints (run : Run) (job : JobView) (read : SourcesRead) (text : List ℕ) : Type 0 where
  pub reads : Reads run job read text
  pub unstored : stored_by job ≡ None
  pub allowed : ¬ IsRefusedDocker (output_of job.task) reads.what
  pub history : run.new.history ≡ history_read run.old.history job read
  pub printed : Takes run.old.output text run.new.output

-- this event isn't `placed` or `unplaced`, so it stored nothing: only these two events can change
-- what a file holds
abbrev pub IsNoStoring : Event → Type 0
IsNoStoring (placed name bytes) = ⊥
IsNoStoring (unplaced name bytes) = ⊥
IsNoStoring _ = ⊤

-- no event in this list is `placed` or `unplaced`
abbrev pub AreNoStorings : List Event → Type 0
AreNoStorings [] = ⊤
AreNoStorings (event ∷ events) = IsNoStoring event × AreNoStorings events

-- no event of the command is `placed` or `unplaced`, so the command stored nothing
pub record StoresNothing (run : Run) : Type 0 where
  pub events : List Event
  pub history : run.new.history ≡ run.old.history ++ events
  pub none : AreNoStorings events

-- a command ran, and ended with this status
abbrev pub IsRun : Run → ℕ → Type 0
IsRun run status = Performs run.words run.names_bytes run.old run.new status

-- a command stored or printed the text of its job's output
abbrev pub IsDone : Run → Type 0
IsDone run = (job : JobView) × (read : SourcesRead) × (text : List ℕ)
    × (Stores run job read text ⊎ Prints run job read text)

-- a command that ended with this status stored nothing, or it may have stored the text of its job's
-- output. It may have stored the text only if the status is 4 (a device failed)
abbrev pub IsUndone : Run → ℕ → Type 0
IsUndone run status = StoresNothing run
    ⊎ ((status ≡ 4) × (job : JobView) × (read : SourcesRead) × (text : List ℕ)
    × MayStore run job read text)

-- ---- what a command knows

-- the knowledge of this file, with no horizon
abbrev pub of_file : List (List ℕ) → Known
of_file file = record { files = file ∷ []; horizon = 0 }

-- the knowledge of this horizon, with no files
abbrev pub of_horizon : ℕ → Known
of_horizon day = record { files = []; horizon = day }

-- this is the text of the summary of the known files and the known horizon
pub record IsKnownText (format : Format) (known : Known) (text : List ℕ) : Type 0 where
  pub good : IsGoodKnown format known
  pub is : IsMessageOf format known text

-- a source held the text of the summary of the known files and the known horizon
abbrev pub HoldsKnown : Format → Bytes → Known → Type 0
HoldsKnown format bytes known =
    (text : List ℕ) × (bytes ≡ Some text) × IsKnownText format known text

-- the office of a command has this knowledge, given what the command's sources held. The office
-- knows the files and the horizons of the states that it read, the file that it took or made a
-- docker from, and the horizon that it set
abbrev pub Knows : TaskView → Bytes → Bytes → Known → Type 0
Knows new_task first second known = known ≡ nothing
Knows check_task first second known = ⊥
Knows (day_task place day) first second known =
    (file : List (List ℕ)) × HoldsFile first file × (known ≡ of_file file)
Knows take_task first second known = (own : Known) × (file : List (List ℕ))
    × HoldsKnown dks_2 first own × HoldsFile second file × (known ≡ united own (of_file file))
Knows merge_task first second known = (own : Known) × (other : Known)
    × HoldsKnown dks_2 first own × HoldsKnown dks_2 second other × (known ≡ united own other)
Knows (print_task place day) first second known = HoldsKnown dks_2 first known
Knows files_task first second known = HoldsKnown dks_2 first known
Knows (horizon_task day) first second known =
    (own : Known) × HoldsKnown dks_2 first own × (known ≡ united own (of_horizon day))
Knows migrate_task first second known = HoldsKnown dks_1 first known

-- this text is the docker at this timing point for this day, made from the summary of what is
-- known. The day isn't refused under the known horizon
pub record PrintsKnown (known : Known) (place : List ℕ) (day : ℕ) (text : List ℕ) : Type 0 where
  pub good : IsGoodKnown dks_2 known
  pub allowed : ¬ IsDayRefused known.horizon day
  pub state : State
  pub is : IsStateOf known state
  pub docker : IsDockerText (live_table state) place day text

-- a command whose office has this knowledge may write this text. The text is the text of the
-- summary of this knowledge, a docker of that summary, or the list of the known files
abbrev pub WritesKnown : TaskView → Known → List ℕ → Type 0
WritesKnown new_task known text = IsKnownText dks_2 known text
WritesKnown check_task known text = ⊤
WritesKnown (day_task place day) known text = PrintsKnown known place day text
WritesKnown take_task known text = IsKnownText dks_2 known text
WritesKnown merge_task known text = IsKnownText dks_2 known text
WritesKnown (print_task place day) known text = PrintsKnown known place day text
WritesKnown files_task known text =
    (state : State) × IsStateOf known state × (text ≡ files_text state.ledger)
WritesKnown (horizon_task day) known text = IsKnownText dks_2 known text
WritesKnown migrate_task known text = IsKnownText dks_2 known text

-- ---- versions of STATE files

-- how a version of a STATE file was made. A version is made by a command (`new`, `take`, `merge`,
-- `horizon` or `migrate`) or saved by a desk. Before a desk saved the version, the desk read its
-- state from an earlier version, and gained files, versions and horizons. Each number, except
-- `day`, is the index of an earlier version of any office, counted from 0. `migrate` reads the text
-- of a summary in the format `DKS1`, and `known` has the files and the horizon of that summary
pub data Origin : Type 0 where
  begun : Origin
  taken : (own : ℕ) (file : List (List ℕ)) → Origin
  merged : (own other : ℕ) → Origin
  raised : (own day : ℕ) → Origin
  migrated : (known : Known) → Origin
  saved : (own : ℕ) (gains : List Gain) → Origin

-- a version of a STATE file, and how it was made
pub record Version : Type 0 where
  pub text : List ℕ
  pub origin : Origin

-- a command with this task stored this text, or may have stored it, and `Held` is true of the bytes
-- that the command's two sources held
pub record ByCommand (task : TaskView) (Held : Bytes → Bytes → Type 0) (text : List ℕ)
    : Type 0 where
  pub run : Run
  pub job : JobView
  pub read : SourcesRead
  pub stores : Stores run job read text ⊎ MayStore run job read text
  pub task_is : job.task ≡ task
  pub held : Held read.first read.second

-- a version with this text was made in this way from earlier versions with these texts
abbrev pub IsMade : List (List ℕ) → Origin → List ℕ → Type 0
IsMade earlier begun text = ByCommand new_task (λ first second. ⊤) text
IsMade earlier (taken own file) text = ByCommand take_task
    (λ first second. HoldsVersion earlier first own × HoldsFile second file) text
IsMade earlier (merged own other) text = ByCommand merge_task
    (λ first second. HoldsVersion earlier first own × HoldsVersion earlier second other) text
IsMade earlier (raised own day) text =
    ByCommand (horizon_task day) (λ first second. HoldsVersion earlier first own) text
IsMade earlier (migrated known) text =
    ByCommand migrate_task (λ first second. HoldsKnown dks_1 first known) text
IsMade earlier (saved own gains) text = IsSaved earlier own gains text

-- each version in the list was made from earlier versions: from versions that precede it in the
-- list, or from still older versions with the texts `earlier`
abbrev pub AreMade : List (List ℕ) → List Version → Type 0
AreMade earlier [] = ⊤
AreMade earlier (version ∷ versions) = IsMade earlier version.origin version.text
    × AreMade (earlier ++ version.text ∷ []) versions

-- what the version with this number knows, given what each version in `earlier` knows
abbrev pub known_at : List Known → ℕ → Known
known_at earlier number = slice_index_or earlier number nothing

-- what is known after this gain, given what was known before the gain and what each version in
-- `earlier` knows
abbrev pub known_with : List Known → Known → Gain → Known
known_with earlier known (file_gained file) = united known (of_file file)
known_with earlier known (version_gained number) = united known (known_at earlier number)
known_with earlier known (horizon_gained day) = united known (of_horizon day)

-- what is known after these gains, given what was known before the gains and what each version in
-- `earlier` knows
abbrev pub known_once : List Known → Known → List Gain → Known
known_once earlier known [] = known
known_once earlier known (gain ∷ gains) =
    known_once earlier (known_with earlier known gain) gains

-- what a version knows, given how it was made and what each version in `earlier` knows
abbrev pub known_by : List Known → Origin → Known
known_by earlier begun = nothing
known_by earlier (taken own file) = united (known_at earlier own) (of_file file)
known_by earlier (merged own other) = united (known_at earlier own) (known_at earlier other)
known_by earlier (raised own day) = united (known_at earlier own) (of_horizon day)
known_by earlier (migrated known) = known
known_by earlier (saved own gains) = known_once earlier (known_at earlier own) gains

-- what each version knows, in order. The result begins with what each version in `earlier` knows
abbrev pub known_after : List Known → List Version → List Known
known_after earlier [] = earlier
known_after earlier (version ∷ versions) =
    known_after (earlier ++ known_by earlier version.origin ∷ []) versions

-- these are all versions of all offices' STATE files, in the order in which they were made. A
-- version may be made from any earlier version, because an old copy may be restored or sent
abbrev pub AreVersions : List Version → Type 0
AreVersions versions = AreMade [] versions

-- the version with this number, counted from 0, has this text and this knowledge
pub record IsVersion (versions : List Version) (number : ℕ) (text : List ℕ)
    (known : Known) : Type 0 where
  pub there : number < length versions
  pub text_is : text ≡ slice_index_or (map (λ (version : Version). version.text) versions) number []
  pub known_is : known ≡ known_at (known_after [] versions) number

-- the `print` job for this timing point and this day, with these words after the subcommand
abbrev pub printing : (place : List ℕ) (day : ℕ) (words : List Text) → JobView
printing place day words = record { task = print_task place day; words = words }
