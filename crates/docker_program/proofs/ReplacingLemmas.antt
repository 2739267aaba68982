-- A draft of a command replaces the bytes that the command opened and read.
use Rattle.cif_laws.proofs.Common.{◌≡◌, ℕ, List, [], ◌∷◌, ◌++◌, length, Option, None, Some, rules, ap, append_assoc, length-append}
use Rattle.docker_host.specs.History.{Bytes, Event, closed, drafted, looked, opened}
use Rattle.docker_host.specs.Standing.{IsStandingOf, IsStill, Standing}
use Rattle.docker_host.proofs.StandingLemmas.{happens_at}
use Rattle.docker_cmd.specs.Job.{JobView}
use Rattle.docker_cmd.specs.Prepared.{IsReadOf, ReadView}
use Rattle.docker_cmd.specs.Tasks.{TaskView}
use Rattle.docker_cmd.specs.Tasks.{sources_of, writes_of}
use Rattle.docker_cmd.specs.Words.{Text}
use Rattle.docker_program.specs.SourceNames.{SourceNames, no_source, standard_input, one_file, file_and_input, two_files}
use Rattle.docker_program.specs.SourceNames.{file_and_word, file_stored, sources_named, stored_by}
use Rattle.docker_program.specs.Sources.{SourcesRead, with_files_read}
use Rattle.docker_program.specs.Commands.{MayStore, Run, Stores, history_read}
use Rattle.docker_program.specs.Replacing.{IsReplaced, ReplacesRead}

none_some : (name : Text) → ◌≡◌ {A = Option Text} None (Some name) → ⊥
none_some name is = cc

some_name : (one two : Text) → ◌≡◌ {A = Option Text} (Some one) (Some two) → one ≡ two
some_name one two same = cc

-- the first of these sources is the file with this name
abbrev IsFirst : Text → SourceNames → Type 0
IsFirst name no_source = ⊥
IsFirst name standard_input = ⊥
IsFirst name (one_file own) = own ≡ name
IsFirst name (file_and_input own) = own ≡ name
IsFirst name (two_files own other) = own ≡ name

-- whatever the second word names, the file with the first name comes first
first_of_two : (name word : Text) → IsFirst name (file_and_word name word)
first_of_two = search rules

-- the first file that is read is opened right after the history `before`
opened_first : (name : Text) (names : SourceNames) (read : SourcesRead) (before : List Event) → IsFirst name names
    → (more : List Event) × (with_files_read names read before ≡ before ++ opened name read.first ∷ more)
opened_first name no_source read before first = absurd first
opened_first name standard_input read before first = absurd first
opened_first name (one_file own) read before first =
    (closed read.first_left ∷ [], ap (λ (n : Text). before ++ opened n read.first ∷ closed read.first_left ∷ []) first)
opened_first name (file_and_input own) read before first =
    (closed read.first_left ∷ [], ap (λ (n : Text). before ++ opened n read.first ∷ closed read.first_left ∷ []) first)
opened_first name (two_files own other) read before first = (
  opened other read.second ∷ closed read.first_left ∷ closed read.second_left ∷ [],
  ap (λ (n : Text). before ++ opened n read.first ∷ opened other read.second ∷ closed read.first_left ∷ closed read.second_left ∷ []) first,
)

module _ (standing : Standing) where
  -- if a file was opened after a look, and has held the same bytes from the look until now, these are
  -- the bytes that were opened
  opened_is_now : (name : Text) (first : Bytes) (old history more rest : List Event) → history ≡ (old ++ looked name ∷ []) ++ opened name first ∷ more
      → IsStandingOf standing (history ++ rest) → IsStill standing name (length old) (length history)
      → standing (length history) name ≡ first
  opened_is_now = search (rules, length-append, append_assoc, happens_at)

  -- the same as `opened_is_now`, for the sources that were read
  own_is_now : (name : Text) (names : SourceNames) (read : SourcesRead) (old rest : List Event) → IsFirst name names
      → IsStandingOf standing (with_files_read names read (old ++ looked name ∷ []) ++ rest)
      → IsStill standing name (length old) (length (with_files_read names read (old ++ looked name ∷ [])))
      → standing (length (with_files_read names read (old ++ looked name ∷ []))) name ≡ read.first
  own_is_now = search (rules, opened_first, opened_is_now)

  -- the history after these words' sources were read, for a task that writes the file with this name
  abbrev read_by : TaskView → List Text → Text → SourcesRead → List Event → List Event
  read_by task words name read old = with_files_read (sources_named (sources_of task) (writes_of task) words) read (old ++ looked name ∷ [])

  -- the bytes that a draft replaces, for each task
  replaced_by : (task : TaskView) (words : List Text) (name : Text) (read : SourcesRead) (what : ReadView) (old rest : List Event)
      → file_stored (writes_of task) words ≡ Some name → IsReadOf task read.first read.second what
      → IsStandingOf standing (read_by task words name read old ++ rest)
      → IsStill standing name (length old) (length (read_by task words name read old))
      → IsReplaced task (standing (length (read_by task words name read old)) name) read.first
  replaced_by = search (rules, none_some, own_is_now, some_name, first_of_two)

  -- if a draft was made when a command had read its sources, the draft replaces what the command read
  replaces : (run : Run) (job : JobView) (read : SourcesRead) (name : Text) (what : ReadView) (last : Event) → stored_by job ≡ Some name
      → IsReadOf job.task read.first read.second what
      → run.new.history ≡ history_read run.old.history job read ++ drafted name (length run.old.history) ∷ last ∷ []
      → IsStandingOf standing run.new.history → ReplacesRead standing run job read
  replaces = search (rules, replaced_by, happens_at)

-- the draft of a command that stored a text replaced what the command read
pub stores_replace : (standing : Standing) (run : Run) (job : JobView) (read : SourcesRead) (text : List ℕ) → Stores run job read text
    → IsStandingOf standing run.new.history → ReplacesRead standing run job read
stores_replace = search (rules, replaces)

-- the same as `stores_replace`, for a command that may have stored a text
pub may_store_replace : (standing : Standing) (run : Run) (job : JobView) (read : SourcesRead) (text : List ℕ) → MayStore run job read text
    → IsStandingOf standing run.new.history → ReplacesRead standing run job read
may_store_replace = search (rules, replaces)
