-- How the reading of a state's text from a source ends.
use Rattle.std.specs.Prelude.{◌≡◌, ℕ, ◌+◌, List, Option, Some, None, Result, Ok, Err, ⊤}
use Rattle.cif_device.specs.FeedEnds.{most_at_once}
use Rattle.docker_model.specs.state.StateText.{Format}
use Rattle.docker_bytes.specs.declared.read.ReadFault.{ReadFault}
use Rattle.docker_bytes.specs.declared.read.ReadFault.TheVariants.{Source, State, Memory}
use Rattle.docker_bytes.specs.SourceRead.{IsFaultOf, ReadsOnePieceMore, RefusesState, WantsMemory}
use Rattle.docker_bytes.specs.StateReading.{IsWhole}

-- the bytes that are left in a source, or `None` if no contract says which bytes the source holds
abbrev pub BytesLeft : Type 0
BytesLeft = Option (List ℕ)

-- a statement that memory ran out while a text was read. Its parameters are the format, the
-- greatest length of a piece, the limit of the text, and the bytes left in the source before and
-- after reading
abbrev pub Wanting : Type 1
Wanting = (format : Format) (most limit : ℕ) (left left_now : BytesLeft) → Type 0

-- says why no state was read: the source failed, its text has this fault, or memory ran out. `None`
-- means a fault of another kind, which can't occur
abbrev pub IsWhyUnread : Wanting → Format → ℕ → BytesLeft → BytesLeft → Option ReadFault → Type 0
IsWhyUnread wants format limit left left_now None = ⊥
IsWhyUnread wants format limit left left_now (Some Source) = ⊤
IsWhyUnread wants format limit left left_now (Some (State fault)) = RefusesState format limit left fault
IsWhyUnread wants format limit left left_now (Some Memory) = wants format most_at_once limit left left_now

-- says how the number of the source's failures has changed. If a failure of the source is the
-- reason why no state was read, the number has grown by one. Otherwise the number is unchanged
abbrev pub CountsWhy : Option ReadFault → ℕ → ℕ → Type 0
CountsWhy None failures failures_now = ⊥
CountsWhy (Some Source) failures failures_now = failures_now ≡ failures + 1
CountsWhy (Some (State fault)) failures failures_now = failures_now ≡ failures
CountsWhy (Some Memory) failures failures_now = failures_now ≡ failures

-- says what the result of reading means: a value for which `IsMade` holds, or a fault that says why
-- there is no value. `why` returns the read fault that is contained in the result's fault
abbrev pub IsOutcome : {A E : Type 0} → Wanting → (E → Option ReadFault) → Format → ℕ → (A → Type 0) → BytesLeft → BytesLeft → Result A E → Type 0
IsOutcome wants why format limit IsMade left left_now (Ok made) = IsMade made
IsOutcome wants why format limit IsMade left left_now (Err fault) = IsWhyUnread wants format limit left left_now (why fault)

-- says how the number of the source's failures has changed when reading returns this result
abbrev pub CountsOutcome : {A E : Type 0} → (E → Option ReadFault) → ℕ → ℕ → Result A E → Type 0
CountsOutcome why failures failures_now (Ok made) = failures_now ≡ failures
CountsOutcome why failures failures_now (Err fault) = CountsWhy (why fault) failures failures_now

-- says that reading stopped at the piece that determines the result. `Outcome` says what the result
-- means for the text, and `Counted` how often the source has failed
pub record StopsReading (format : Format) (limit : ℕ) (left left_now : BytesLeft) (Outcome Counted : Type 0) : Type 0 where
  pub few : ReadsOnePieceMore format most_at_once limit left left_now
  pub outcome : Outcome
  pub failures : Counted

-- says how the reading of a text in this format, of at most `limit` bytes, has ended. `why` returns
-- the read fault that is contained in the result's fault. `left` returns the bytes left in a
-- source, and `failures` its number of failures
abbrev pub EndsReadingBy : {S A E : Type 0} → Wanting → (E → Option ReadFault) → (S → BytesLeft) → (S → ℕ) → Format → ℕ → (A → Type 0) → S → S
    → Result A E → Type 0
EndsReadingBy wants why left failures format limit IsMade source source_now result =
    StopsReading format limit (left source) (left source_now) (IsOutcome wants why format limit IsMade (left source) (left source_now) result)
    (CountsOutcome why (failures source) (failures source_now) result)

-- returns the fault itself, for results whose fault is already a read fault
abbrev pub as_it_is : ReadFault → Option ReadFault
as_it_is fault = Some fault

-- says how reading has ended, like `EndsReadingBy`, if the result's fault is a read fault itself
abbrev pub EndsReading : {S A : Type 0} → (S → BytesLeft) → (S → ℕ) → Format → ℕ → (A → Type 0) → S → S → Result A ReadFault → Type 0
EndsReading left failures format limit IsMade source source_now result =
    EndsReadingBy WantsMemory as_it_is left failures format limit IsMade source source_now result

-- says what the result at the end of a text means: a value for which `IsMade` holds, a fault of the text or, after a whole text, `Memory`
abbrev pub EndsText : {A : Type 0} → Format → ℕ → List ℕ → (A → Type 0) → Result A ReadFault → Type 0
EndsText format limit text IsMade (Ok made) = IsMade made
EndsText format limit text IsMade (Err Source) = ⊥
EndsText format limit text IsMade (Err (State fault)) = IsFaultOf format limit text fault
EndsText format limit text IsMade (Err Memory) = IsWhole format limit text
