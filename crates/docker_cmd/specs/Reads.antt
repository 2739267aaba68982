-- The kinds of input that a task reads.
use Rattle.docker_model.specs.state.StateText.{Format, dks_1, dks_2}
use Rattle.docker_cmd.specs.declared.reads.Sources as declared
use Rattle.docker_cmd.specs.declared.reads.Sources.TheVariants as code

-- the input of a task, in the order of its words. A file is only checked, or taken by an office. A
-- state is in the format `DKS2` or in the older format `DKS1`. A file or a second state may follow
-- a state
pub data Sources : Type 0 where
  no_source : Sources
  checked_file : Sources
  taken_file : Sources
  one_state : (format : Format) → Sources
  state_and_file : Sources
  two_states : Sources

-- converts the code's `Sources` to the `Sources` of the definitions
abbrev pub sources_meant : declared.Sources → Sources
sources_meant code.NoSource = no_source
sources_meant code.CheckedFile = checked_file
sources_meant code.TakenFile = taken_file
sources_meant code.OneState = one_state dks_2
sources_meant code.OlderState = one_state dks_1
sources_meant code.StateAndFile = state_and_file
sources_meant code.TwoStates = two_states
