-- What a job is, and which words name it.
use Rattle.std.specs.Prelude.{◌≡◌, List, ◌∷◌, Option, Some, None, IsTrue, length}
use Rattle.std.specs.List.{list_all}
use Rattle.docker_cmd.specs.declared.tasks.Subcommand.{Subcommand}
use Rattle.docker_cmd.specs.Tasks.{AreWordsOf, TaskView, ids_of, name_of, subcommand_of}
use Rattle.docker_cmd.specs.Words.{Text, is_plain_word}

-- a job: its task, and the words after the subcommand
pub record JobView : Type 0 where
  pub task : TaskView
  pub words : List Text

-- the words name this job: they are the name of the job's subcommand, followed by words that name
-- the job's task. No word is empty or begins with a hyphen
pub record IsJobOf (words : List Text) (job : JobView) : Type 0 where
  pub plain : IsTrue (list_all is_plain_word words)
  pub whole : words ≡ name_of (subcommand_of job.task) ∷ job.words
  pub required : AreWordsOf job.task job.words

-- the words name no job
abbrev pub NameNoJob : List Text → Type 0
NameNoJob words = (job : JobView) → ¬ IsJobOf words job

-- these words name no task of the subcommand
abbrev pub AskNothing : Subcommand → List Text → Type 0
AskNothing subcommand words = (task : TaskView) → subcommand_of task ≡ subcommand → ¬ AreWordsOf task words

-- if the last argument is a task, these words name this task of the subcommand. If it is None, the
-- words name no task of the subcommand
abbrev pub IsTaskOf : Subcommand → List Text → Option TaskView → Type 0
IsTaskOf subcommand words (Some task) = (subcommand_of task ≡ subcommand) × AreWordsOf task words
IsTaskOf subcommand words None = AskNothing subcommand words

-- the words name this subcommand: they are the subcommand's name, followed by as many words as the
-- subcommand requires, and no word is empty or begins with a hyphen
pub record NamesSubcommand (words : List Text) (subcommand : Subcommand) (behind : List Text) : Type 0 where
  pub plain : IsTrue (list_all is_plain_word words)
  pub whole : words ≡ name_of subcommand ∷ behind
  pub count : length behind ≡ length (ids_of subcommand)

-- the words name no subcommand
abbrev pub NameNoSubcommand : List Text → Type 0
NameNoSubcommand words = (subcommand : Subcommand) (behind : List Text) → ¬ NamesSubcommand words subcommand behind
