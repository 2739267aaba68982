-- What the words of a job name: the sources that the job reads, and the file that it writes.
use Rattle.std.specs.Prelude.{Bool, List, [], ◌∷◌, Option, Some, None, codes, if◌then◌else◌}
use Rattle.std.specs.Str.{bytes_eq}
use Rattle.docker_cmd.specs.Words.{Text}
use Rattle.docker_cmd.specs.Job.{JobView}
use Rattle.docker_cmd.specs.Reads as reads
use Rattle.docker_cmd.specs.Reads.{Sources}
use Rattle.docker_cmd.specs.Tasks.{sources_of, writes_of}
use Rattle.docker_cmd.specs.declared.writes.OutputKind.{OutputKind}
use Rattle.docker_cmd.specs.declared.writes.OutputKind.TheVariants as kind
use Rattle.docker_program.specs.declared.names.SourceNames as declared
use Rattle.docker_program.specs.declared.names.SourceNames.TheVariants as code

-- the sources of a job, in the order of its words. Standard input may be the only source, or follow
-- a file
pub data SourceNames : Type 0 where
  no_source : SourceNames
  standard_input : SourceNames
  one_file : (name : Text) → SourceNames
  file_and_input : (name : Text) → SourceNames
  two_files : (name other : Text) → SourceNames

-- converts the code's `SourceNames` to the definitions' `SourceNames`
abbrev pub names_meant : declared.SourceNames → SourceNames
names_meant code.None = no_source
names_meant code.Stdin = standard_input
names_meant (code.File name) = one_file name.now
names_meant (code.FileAndStdin name) = file_and_input name.now
names_meant (code.Files name other) = two_files name.now other.now

-- whether this word is `stdin`, the name of standard input
abbrev pub is_stdin : Text → Bool
is_stdin word = bytes_eq word (codes "stdin")

-- the source that a word names: standard input if the word is `stdin`, and otherwise a file
abbrev pub file_or_input : Text → SourceNames
file_or_input word = if is_stdin word then standard_input else one_file word

-- two sources: the file with this name, and whatever the second word names. `stdin` as the second
-- word names standard input
abbrev pub file_and_word : Text → Text → SourceNames
file_and_word name word = if is_stdin word then file_and_input name else two_files name word

-- the first word, or the empty word if there is none
abbrev pub first_word : List Text → Text
first_word [] = []
first_word (word ∷ words) = word

-- the second word, or the empty word if there is none
abbrev pub second_word : List Text → Text
second_word [] = []
second_word (word ∷ words) = first_word words

-- the source of a job that has only one source, which this word names. If the job writes a state,
-- the word is the name of STATE, and names a file even if it is `stdin`
abbrev pub only_source : OutputKind → Text → SourceNames
only_source kind.Counts word = file_or_input word
only_source kind.Docker word = file_or_input word
only_source kind.Files word = file_or_input word
only_source kind.State word = one_file word

-- the sources that these words name, for a job with these kinds of input and output
abbrev pub sources_named : Sources → OutputKind → List Text → SourceNames
sources_named reads.no_source output words = no_source
sources_named reads.checked_file output words = only_source output (first_word words)
sources_named reads.taken_file output words = only_source output (first_word words)
sources_named (reads.one_state format) output words = only_source output (first_word words)
sources_named reads.state_and_file output words =
    file_and_word (first_word words) (second_word words)
sources_named reads.two_states output words =
    file_and_word (first_word words) (second_word words)

-- the sources that the words of this job name
abbrev pub names_of : JobView → SourceNames
names_of job = sources_named (sources_of job.task) (writes_of job.task) job.words

-- the name of the file that is written, or `None` if the output is printed. If the output is a
-- state, the name is the first word
abbrev pub file_stored : OutputKind → List Text → Option Text
file_stored kind.Counts words = None
file_stored kind.Docker words = None
file_stored kind.Files words = None
file_stored kind.State words = Some (first_word words)

-- the name of the file that this job writes, or `None` if the job prints
abbrev pub stored_by : JobView → Option Text
stored_by job = file_stored (writes_of job.task) job.words
