-- The table of subcommands, and the tasks of a job.
use Rattle.std.specs.Prelude.{ℕ, List, [], ◌∷◌, ◌++◌, Option, Some, None, codes, map, ⊤}
use Rattle.docker_model.specs.state.StateText.{dks_1, dks_2}
use Rattle.docker_cmd.specs.Reads.{Sources, no_source, checked_file, taken_file, one_state, state_and_file, two_states, sources_meant}
use Rattle.docker_cmd.specs.Words.{NamesDay, NamesPlace, NamesStored, OfOne, OfThree, OfTwo, Text, usages, word_named}
use Rattle.docker_cmd.specs.Writes.{Output, output_of_kind}
use Rattle.docker_cmd.specs.declared.tasks.Row as code
use Rattle.docker_cmd.specs.declared.tasks.Subcommand.{Subcommand}
use Rattle.docker_cmd.specs.declared.tasks.Subcommand.TheVariants.{New, Check, Day, Take, Merge, Print, Files, Horizon, Migrate}
use Rattle.docker_cmd.specs.declared.tasks.Task.{Task}
use Rattle.docker_cmd.specs.declared.tasks.Task.TheVariants as task
use Rattle.docker_cmd.specs.declared.writes.OutputKind.{OutputKind}
use Rattle.docker_cmd.specs.declared.writes.OutputKind.TheVariants as kind

-- a row of the table: a subcommand's name, the names of the words after it, what the subcommand
-- reads, and the kind of output that it writes
pub record Row : Type 0 where
  pub name : Text
  pub ids : List Text
  pub reads : Sources
  pub writes : OutputKind

-- makes a row from these columns
abbrev pub row : Text → List Text → Sources → OutputKind → Row
row name ids reads writes = record { name = name; ids = ids; reads = reads; writes = writes }

-- converts the code's `Row` to the `Row` of the definitions
abbrev pub row_meant : code.Row → Row
row_meant given = row given.name.now (map (λ id. id.now) given.ids.now) (sources_meant given.reads) given.writes

-- the table of subcommands: the row of each subcommand
abbrev pub row_of : Subcommand → Row
row_of New = row (codes "new") (codes "STATE" ∷ []) no_source kind.State
row_of Check = row (codes "check") (codes "FILE" ∷ []) checked_file kind.Counts
row_of Day = row (codes "day") (codes "FILE" ∷ codes "TIPLOC" ∷ codes "DATE" ∷ []) taken_file kind.Docker
row_of Take = row (codes "take") (codes "STATE" ∷ codes "FILE" ∷ []) state_and_file kind.State
row_of Merge = row (codes "merge") (codes "STATE" ∷ codes "OTHER" ∷ []) two_states kind.State
row_of Print = row (codes "print") (codes "STATE" ∷ codes "TIPLOC" ∷ codes "DATE" ∷ []) (one_state dks_2) kind.Docker
row_of Files = row (codes "files") (codes "STATE" ∷ []) (one_state dks_2) kind.Files
row_of Horizon = row (codes "horizon") (codes "STATE" ∷ codes "DATE" ∷ []) (one_state dks_2) kind.State
row_of Migrate = row (codes "migrate") (codes "STATE" ∷ []) (one_state dks_1) kind.State

-- all subcommands
abbrev pub subcommands : List Subcommand
subcommands = New ∷ Check ∷ Day ∷ Take ∷ Merge ∷ Print ∷ Files ∷ Horizon ∷ Migrate ∷ []

-- the name of a subcommand
abbrev pub name_of : Subcommand → Text
name_of subcommand = (row_of subcommand).name

-- the names of the words after a subcommand, as the usage line shows them
abbrev pub ids_of : Subcommand → List Text
ids_of subcommand = (row_of subcommand).ids

-- the subcommand with this name, if there is one
abbrev pub subcommand_named : Text → Option Subcommand
subcommand_named = word_named name_of subcommands

-- the usage line: each subcommand's name and the words that it requires
abbrev pub usage_line : Text
usage_line = codes "docker: usage: " ++ usages name_of ids_of subcommands ++ codes "\n"

-- a task: what a job does, with the timing point and the day number that its words name
pub data TaskView : Type 0 where
  new_task : TaskView
  check_task : TaskView
  day_task : (place : List ℕ) (day : ℕ) → TaskView
  take_task : TaskView
  merge_task : TaskView
  print_task : (place : List ℕ) (day : ℕ) → TaskView
  files_task : TaskView
  horizon_task : (day : ℕ) → TaskView
  migrate_task : TaskView

-- converts the code's `Task` to a `TaskView`
abbrev pub task_meant : Task → TaskView
task_meant task.New = new_task
task_meant task.Check = check_task
task_meant (task.Day place day) = day_task place day
task_meant task.Take = take_task
task_meant task.Merge = merge_task
task_meant (task.Print place day) = print_task place day
task_meant task.Files = files_task
task_meant (task.Horizon day) = horizon_task day
task_meant task.Migrate = migrate_task

-- the subcommand of a task
abbrev pub subcommand_of : TaskView → Subcommand
subcommand_of new_task = New
subcommand_of check_task = Check
subcommand_of (day_task place day) = Day
subcommand_of take_task = Take
subcommand_of merge_task = Merge
subcommand_of (print_task place day) = Print
subcommand_of files_task = Files
subcommand_of (horizon_task day) = Horizon
subcommand_of migrate_task = Migrate

-- the timing point that a task names, if it names one
abbrev pub tiploc_of : TaskView → Option (List ℕ)
tiploc_of (day_task place day) = Some place
tiploc_of (print_task place day) = Some place
tiploc_of _ = None

-- the day that a task names, if it names one
abbrev pub day_of : TaskView → Option ℕ
day_of (day_task place day) = Some day
day_of (print_task place day) = Some day
day_of (horizon_task day) = Some day
day_of _ = None

-- the words after the subcommand name this task
abbrev pub AreWordsOf : TaskView → List Text → Type 0
AreWordsOf new_task = OfOne (λ state. NamesStored state)
AreWordsOf check_task = OfOne (λ file. ⊤)
AreWordsOf (day_task place day) = OfThree (λ file tiploc date. NamesPlace tiploc place × NamesDay date day)
AreWordsOf take_task = OfTwo (λ state file. NamesStored state)
AreWordsOf merge_task = OfTwo (λ state other. NamesStored state)
AreWordsOf (print_task place day) = OfThree (λ state tiploc date. NamesPlace tiploc place × NamesDay date day)
AreWordsOf files_task = OfOne (λ state. ⊤)
AreWordsOf (horizon_task day) = OfTwo (λ state date. NamesStored state × NamesDay date day)
AreWordsOf migrate_task = OfOne (λ state. NamesStored state)

-- the kind of input that a task reads
abbrev pub sources_of : TaskView → Sources
sources_of task = (row_of (subcommand_of task)).reads

-- the kind of output that a task writes
abbrev pub writes_of : TaskView → OutputKind
writes_of task = (row_of (subcommand_of task)).writes

-- the output that a task writes
abbrev pub output_of : TaskView → Output
output_of task = output_of_kind (writes_of task) (tiploc_of task) (day_of task)
