-- Defines why a line is refused as the next line of a schedule in a state's text.
use Rattle.std.specs.Prelude.{◌≡◌, ℕ, List, [], ◌∷◌, ◌++◌, length, Option, Some, None}
use Rattle.docker_model.specs.file.Change as model
use Rattle.docker_model.specs.file.File.{IsSchedule, BeginsSchedule}
use Rattle.docker_model.specs.state.State.{State}
use Rattle.docker_model.specs.state.StateFault.{StateCause, bad_body}
use Rattle.docker_model.specs.state.StatePart.{AreLinesOf, AreLinesUpTo, HaveNotToLapse}

-- says that some schedule begins with these lines. If they are `count` lines, they are a whole
-- schedule
pub record BeginUpTo (count : ℕ) (lines : List (List ℕ)) : Type 0 where
  pub begin : BeginsSchedule lines
  pub complete : length lines ≡ count → IsSchedule lines

-- says why a line that comes after these lines is refused. For `bad_body`, no schedule of `count` lines begins with the lines followed by this line. For
-- `None`, some schedule begins with them, but there was no memory for the line
abbrev pub IsLineRefusal : ℕ → List (List ℕ) → List ℕ → Option StateCause → Type 0
IsLineRefusal count lines line None = BeginUpTo count (lines ++ line ∷ [])
IsLineRefusal count lines line (Some bad_body) = ¬ BeginUpTo count (lines ++ line ∷ [])
IsLineRefusal count lines line _ = ⊥

-- says that these are the first lines of a schedule with this key, and that the schedule doesn't end before the state's horizon
abbrev pub AreLinesIn : State → model.ScheduleKey → List (List ℕ) → Type 0
AreLinesIn state key lines = AreLinesOf key lines × HaveNotToLapse state lines

-- like `AreLinesIn`, but for a schedule of n lines
abbrev pub AreLinesUpToIn : State → model.ScheduleKey → ℕ → List (List ℕ) → Type 0
AreLinesUpToIn state key n lines = AreLinesUpTo key n lines × HaveNotToLapse state lines

-- says why a line is refused as one of the `n` lines of a schedule with this key. For `bad_body`, no schedule of `n` lines with this key begins with the lines
-- before it and this line. For `None`, some schedule does, but there was no memory for the line
abbrev pub IsUpToRefusal : State → model.ScheduleKey → ℕ → List (List ℕ) → List ℕ → Option StateCause → Type 0
IsUpToRefusal state key n lines line None = AreLinesUpToIn state key n (lines ++ line ∷ [])
IsUpToRefusal state key n lines line (Some bad_body) = ¬ AreLinesUpToIn state key n (lines ++ line ∷ [])
IsUpToRefusal state key n lines line _ = ⊥
