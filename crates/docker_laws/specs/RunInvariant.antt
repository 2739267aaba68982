-- The invariant of a run, which holds after each event. Every state is the summary of the files
-- that its office knows. Every message is the text of the summary of the files that its sender
-- knew.
use Rattle.std.specs.Prelude.{ℕ, List, All}
use Rattle.std.specs.List.{AllZip}
use Rattle.docker_model.specs.state.State.{State}
use Rattle.docker_model.specs.state.StateText.{Format}
use Rattle.docker_model.specs.run.Run.{KnownSets, IsStateOf, IsMessageOf}
use Rattle.docker_model.specs.run.Knowledge.{IsGoodKnown}

-- the states and the texts of the messages match the knowledge. Each state is the summary of the
-- files that its office knows. Each message is the text of the summary of the files that its sender
-- knew. Every known file is a CIF file, and the format allows every known horizon
pub record Holds (format : Format) (known : KnownSets) (states : List State) (messages : List (List ℕ)) : Type 0 where
  pub offices : All (IsGoodKnown format) known.offices
  pub sent : All (IsGoodKnown format) known.messages
  pub states_are : AllZip IsStateOf known.offices states
  pub messages_are : AllZip (IsMessageOf format) known.messages messages
