-- What the draft of a command replaces, where contracts can say which bytes a file holds.
use Rattle.std.specs.Prelude.{◌≡◌, length, Some, ⊤}
use Rattle.docker_model.specs.state.State.{State}
use Rattle.docker_model.specs.state.StateText.{Format, dks_1, dks_2}
use Rattle.docker_host.specs.History.{Bytes}
use Rattle.docker_host.specs.Standing.{IsStill, Standing}
use Rattle.docker_bytes.specs.SourceRead.{ReadsState}
use Rattle.docker_cmd.specs.Job.{JobView}
use Rattle.docker_cmd.specs.Prepared.{most_bytes}
use Rattle.docker_cmd.specs.Tasks.{TaskView, new_task, check_task, day_task, take_task, merge_task}
use Rattle.docker_cmd.specs.Tasks.{print_task, files_task, horizon_task, migrate_task}
use Rattle.docker_cmd.specs.Words.{Text}
use Rattle.docker_program.specs.SourceNames.{stored_by}
use Rattle.docker_program.specs.Sources.{SourcesRead}
use Rattle.docker_program.specs.Commands.{Run, history_read}

-- a source held the whole text of a state in this format
abbrev pub HoldsWhole : Format → Bytes → Type 0
HoldsWhole format bytes = (state : State) × ReadsState format most_bytes bytes state

-- a draft of this task may replace these bytes, if `first` are the bytes that the task's first
-- source held. A task that reads STATE replaces the bytes that it read, and these are the whole text
-- of a state. `new` reads nothing
abbrev pub IsReplaced : TaskView → (replaced first : Bytes) → Type 0
IsReplaced new_task replaced first = ⊤
IsReplaced take_task replaced first = (replaced ≡ first) × HoldsWhole dks_2 first
IsReplaced merge_task replaced first = (replaced ≡ first) × HoldsWhole dks_2 first
IsReplaced (horizon_task day) replaced first = (replaced ≡ first) × HoldsWhole dks_2 first
IsReplaced migrate_task replaced first = (replaced ≡ first) × HoldsWhole dks_1 first
IsReplaced check_task replaced first = ⊥
IsReplaced (day_task place day) replaced first = ⊥
IsReplaced (print_task place day) replaced first = ⊥
IsReplaced files_task replaced first = ⊥

-- a command made a draft when it had read its sources. From the command's look at the file that the
-- job writes until the draft was made, this file held the same bytes. `standing` gives the bytes of
-- each file at each position of the history
pub record ReplacesRead (standing : Standing) (run : Run) (job : JobView) (read : SourcesRead)
    : Type 0 where
  pub name : Text
  pub stored : stored_by job ≡ Some name
  pub still : IsStill standing name (length run.old.history)
      (length (history_read run.old.history job read))
  pub replaced : IsReplaced job.task
      (standing (length (history_read run.old.history job read)) name) read.first
