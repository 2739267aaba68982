-- Definitions that several laws use.
use Rattle.std.specs.Prelude.{◌≡◌, ℕ, ◌+◌, ◌≤◌, List, slice_set, Contains}
use Rattle.docker_model.specs.state.State.{State}
use Rattle.docker_model.specs.state.StateText.{Format}
use Rattle.docker_model.specs.run.Run.{KnownSets, RunEvent, done, after_reply}
use Rattle.docker_laws.specs.RunInvariant.{Holds}

-- the day is the start day or one of the two days after it
abbrev pub IsNear : ℕ → ℕ → Type 0
IsNear start day = (start ≤ day) × (day ≤ start + 2)

-- each pair in the list is for this place: its first component is the place
abbrev pub AreAt : {K : Type 0} → List ℕ → List (List ℕ × K) → Type 0
AreAt {K} place rows = (row : List ℕ × K) → Contains rows row → row.0 ≡ place

-- no pair in the list is for this place: no first component is the place
abbrev pub AreElsewhere : {K : Type 0} → List ℕ → List (List ℕ × K) → Type 0
AreElsewhere {K} place rows = (row : List ℕ × K) → Contains rows row → ¬ (row.0 ≡ place)

-- after an event that was carried out, the states and messages match the knowledge (`Holds`). The
-- office's state after the event is `now`
abbrev pub HoldsAfter : Format → KnownSets → RunEvent → List State → ℕ → State → List (List ℕ) → Type 0
HoldsAfter format known event states office now messages =
    Holds format (after_reply known (event, done)) (slice_set states office now) messages
