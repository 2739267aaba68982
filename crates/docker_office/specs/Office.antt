-- How an office's calls change the state that it keeps.
use Rattle.std.specs.Prelude.{◌≡◌, ℕ, max, ◌⊎◌, List, [], ◌∷◌, ◌++◌, Option, Some}
use Rattle.cif_device.specs.Device.{Takes, TakesPart, Held}
use Rattle.cif_device.specs.FeedEnds.{most_at_once}
use Rattle.docker_model.specs.file.FileFault.{IsFileText}
use Rattle.docker_model.specs.state.State.{State, IsJoin, live_table}
use Rattle.docker_model.specs.state.Summary.{IsSummary}
use Rattle.docker_model.specs.state.StateText.{Format, dks_2}
use Rattle.docker_model.specs.state.StateFault.{IsStateText}
use Rattle.docker_model.specs.docker.DockerText.{IsDockerText}
use Rattle.cif_file.specs.SourceRead.{WantsMemory}

-- the state without files and without a horizon
abbrev pub no_state : State
no_state = record { horizon = 0; ledger = []; entries = [] }

-- says that the source held the text of a file with at most `limit` records
pub record HoldsFile (limit : ℕ) (left : Option (List ℕ)) : Type 0 where
  pub text : List ℕ
  pub held : Held left text
  pub file : List (List ℕ)
  pub is_text : IsFileText limit text file

-- says that the source held the text of a file with at most `limit` records, and that `new` is the
-- join of `old` with the file's summary
pub record TakesFile (limit : ℕ) (left : Option (List ℕ)) (old new : State) : Type 0 where
  pub text : List ℕ
  pub held : Held left text
  pub file : List (List ℕ)
  pub is_text : IsFileText limit text file
  pub own : State
  pub of_file : IsSummary (file ∷ []) 0 own
  pub joined : IsJoin old own new

-- says that memory ran out: while the file was read, or afterwards, while the file's state was made
-- or joined
abbrev pub WantsForFile : ℕ → Option (List ℕ) → Option (List ℕ) → Type 0
WantsForFile limit old new = WantsMemory most_at_once limit old new ⊎ HoldsFile limit old

-- says that `new` is the summary of these files, of the file whose text the source held, and of
-- this horizon
pub record KnowsFileToo (limit : ℕ) (left : Option (List ℕ)) (files : List (List (List ℕ))) (horizon : ℕ) (new : State) : Type 0 where
  pub text : List ℕ
  pub held : Held left text
  pub file : List (List ℕ)
  pub is_text : IsFileText limit text file
  pub summary : IsSummary (file ∷ files) horizon new

-- says that contracts can name the bytes that the source holds, and that these bytes are the text
-- of this state in this format. The text isn't longer than the limit
pub record HoldsState (format : Format) (limit : ℕ) (left : Option (List ℕ)) (sent : State) : Type 0 where
  pub text : List ℕ
  pub told : left ≡ Some text
  pub is : IsStateText format limit text sent

-- says that joining preserves summaries. Suppose that `old` is the summary of a set of files, and
-- that the source held the text of the summary of another set. Then `new` is the summary of the
-- files in both sets, with the later horizon
abbrev pub JoinsSummaries : ℕ → Option (List ℕ) → State → State → Type 0
JoinsSummaries limit left old new =
    (files others : List (List (List ℕ))) (g h : ℕ) (sent : State) → IsSummary files g old → IsSummary others h sent → HoldsState dks_2 limit left sent
    → IsSummary (files ++ others) (max g h) new

-- says that the sink gained the text of the state's docker for a place and a day
pub record PrintsDocker (state : State) (place : List ℕ) (day : ℕ) (old new : Option (List ℕ)) : Type 0 where
  pub text : List ℕ
  pub is : IsDockerText (live_table state) place day text
  pub gained : Takes old text new

-- says that the sink gained a proper prefix of the text of the state's docker for a place and a day
pub record PrintsPart (state : State) (place : List ℕ) (day : ℕ) (old new : Option (List ℕ)) : Type 0 where
  pub text : List ℕ
  pub is : IsDockerText (live_table state) place day text
  pub gained : TakesPart old text new
