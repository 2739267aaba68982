-- The outputs that tasks write, and their kinds.
use Rattle.std.specs.Prelude.{ℕ, List, [], Option, unwrap_or}
use Rattle.docker_cmd.specs.declared.writes.OutputKind.{OutputKind}
use Rattle.docker_cmd.specs.declared.writes.OutputKind.TheVariants as kind

-- the output of a task: a file's counts, a docker, the list of a state's files, or a state
pub data Output : Type 0 where
  counts_written : Output
  docker_written : (place : List ℕ) (day : ℕ) → Output
  files_written : Output
  state_written : Output

-- the output of this kind. A docker is the docker of this timing point on this day. Each task that
-- writes a docker names both, so the two values after `unwrap_or` aren't used
abbrev pub output_of_kind : OutputKind → Option (List ℕ) → Option ℕ → Output
output_of_kind kind.Counts place day = counts_written
output_of_kind kind.Docker place day = docker_written (unwrap_or place []) (unwrap_or day 0)
output_of_kind kind.Files place day = files_written
output_of_kind kind.State place day = state_written
