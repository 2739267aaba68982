-- The events that a folder's history gains when a text is stored in a file. A look is given by its
-- position in the history.
use Rattle.std.specs.Prelude.{◌≡◌, ℕ, ◌+◌, Bool, ⊤, ◌⊎◌, List, [], ◌∷◌, ◌++◌, Result, Ok, Err}
use Rattle.docker_host.specs.History.{Bytes, Text, Event, drafted, undrafted, placed, unplaced, dropped, named_if}

-- no draft based on the look at this position in the history could be made
abbrev pub IsUndrafted : Text → ℕ → List Event → List Event → Type 0
IsUndrafted name look old new = new ≡ old ++ undrafted name look ∷ []

-- a draft based on the look at this position in the history was made, and was then discarded
abbrev pub IsDropped : Text → ℕ → List Event → List Event → Type 0
IsDropped name look old new = new ≡ old ++ drafted name look ∷ dropped name ∷ []

-- a draft of this text, based on the look at this position in the history, was made and replaced
-- the file
abbrev pub IsStored : Bool → Text → ℕ → Text → List Event → List Event → Type 0
IsStored names_bytes name look text old new =
    new ≡ old ++ drafted name look ∷ placed name (named_if names_bytes text) ∷ []

-- a draft of this text, based on the look at this position in the history, was made, but replacing
-- the file with the draft failed
abbrev pub IsUnplaced : Bool → Text → ℕ → Text → List Event → List Event → Type 0
IsUnplaced names_bytes name look text old new =
    new ≡ old ++ drafted name look ∷ unplaced name (named_if names_bytes text) ∷ []

-- storing the text failed because a device failed: no draft was made, the draft was discarded, or
-- replacing the file with the draft failed
abbrev pub FailsToStore : Bool → Text → ℕ → Text → List Event → List Event → Type 0
FailsToStore names_bytes name look text old new =
    IsUndrafted name look old new
    ⊎ (IsDropped name look old new ⊎ IsUnplaced names_bytes name look text old new)

-- after a text was written to a draft with the result `written`, the draft ended with this result.
-- It replaced the named file, it couldn't replace the file, or it was discarded because writing the
-- text had failed. If it couldn't replace the file, the fault is `failed`, and the failure count has
-- grown by one. `taken` are the bytes that the draft took
abbrev pub EndsDraft : {E : Type 0} → (name : Text) (taken : Bytes) (failed : E) (old new : List Event)
    (failures failures_now : ℕ) (written result : Result ⊤ E) → Type 0
EndsDraft name taken failed old new failures failures_now (Ok done) (Ok ended) =
    (new ≡ old ++ placed name taken ∷ []) × (failures_now ≡ failures)
EndsDraft name taken failed old new failures failures_now (Ok done) (Err fault) =
    (fault ≡ failed) × ((new ≡ old ++ unplaced name taken ∷ []) × (failures_now ≡ failures + 1))
EndsDraft name taken failed old new failures failures_now (Err cause) result =
    (result ≡ Err cause) × ((new ≡ old ++ dropped name ∷ []) × (failures_now ≡ failures))
