-- The ways in which reading a state or a file can end for an office.
use Rattle.std.specs.Prelude.{◌≡◌, ℕ, Option, Some, None, IsSomeAnd, Result, Ok, Err}
use Rattle.cif_device.specs.Device.{IsEnd}
use Rattle.cif_file.specs.FileEnds.{CountsWhyNoFile, IsWhyNoFile, StopsReadingFile}
use Rattle.cif_file.specs.declared.fault.FileReadFault as files
use Rattle.cif_file.specs.declared.fault.FileReadFault.TheVariants as file_faults
use Rattle.docker_bytes.specs.ReadEnds.{BytesLeft, EndsReadingBy}
use Rattle.docker_bytes.specs.SourceRead.{WantsMemory}
use Rattle.docker_bytes.specs.declared.read.ReadFault.{ReadFault}
use Rattle.docker_bytes.specs.declared.read.ReadFault.TheVariants as states
use Rattle.docker_model.specs.state.StateText.{Format}
use Rattle.docker_office.specs.Office.{WantsForFile}
use Rattle.docker_office.specs.declared.fault.OfficeFault.{OfficeFault}
use Rattle.docker_office.specs.declared.fault.OfficeFault.TheVariants.{File, State, Lapsed, Source, Sink, Memory}

-- ---- how reading a state ends

-- converts an office's fault to the fault with which the reader of a state stopped. The result is
-- `None` if the office's fault doesn't come from reading a state
abbrev pub why_unread : OfficeFault → Option ReadFault
why_unread (State fault) = Some (states.State fault)
why_unread Source = Some states.Source
why_unread Memory = Some states.Memory
why_unread (File fault) = None
why_unread Lapsed = None
why_unread Sink = None

-- says how reading a state's text has ended for an office
abbrev pub EndsReadingState : {S A : Type 0} → (S → BytesLeft) → (S → ℕ) → Format → ℕ → (A → Type 0) → S → S → Result A OfficeFault → Type 0
EndsReadingState left failures format limit IsMade source source_now result =
    EndsReadingBy WantsMemory why_unread left failures format limit IsMade source source_now result

-- ---- how taking a file ends

-- converts an office's fault to the fault with which the reader of a file stopped. The result is
-- `None` if the office's fault doesn't come from taking a file
abbrev pub why_untaken : OfficeFault → Option files.FileReadFault
why_untaken (File fault) = Some (file_faults.File fault)
why_untaken Source = Some file_faults.Source
why_untaken Memory = Some file_faults.Memory
why_untaken (State fault) = None
why_untaken Lapsed = None
why_untaken Sink = None

-- says what the result of taking a file means. If the result is a value, `IsMade` holds for the
-- value, and the source was read to its end. If the result is a fault, the text has this fault, or
-- memory ran out, or the source failed
abbrev pub IsTakingOutcome : {A : Type 0} → ℕ → (A → Type 0) → BytesLeft → BytesLeft → Result A OfficeFault → Type 0
IsTakingOutcome limit IsMade left left_now (Ok made) = IsMade made × IsEnd left_now
IsTakingOutcome limit IsMade left left_now (Err fault) = IsSomeAnd (why_untaken fault) (IsWhyNoFile (λ most. WantsForFile) limit left left_now)

-- says how the number of the source's failures has changed. If the fault is that the source failed,
-- the number has grown by one. Otherwise the number is unchanged
abbrev pub CountsTaking : {A : Type 0} → ℕ → ℕ → Result A OfficeFault → Type 0
CountsTaking failures failures_now (Ok made) = failures_now ≡ failures
CountsTaking failures failures_now (Err fault) = IsSomeAnd (why_untaken fault) (λ why. CountsWhyNoFile why failures failures_now)

-- says how taking a file with at most `limit` records has ended for an office
abbrev pub EndsTakingFile : {S A : Type 0} → (S → BytesLeft) → (S → ℕ) → ℕ → (A → Type 0) → S → S → Result A OfficeFault → Type 0
EndsTakingFile left failures limit IsMade source source_now result =
    StopsReadingFile limit (left source) (left source_now) (IsTakingOutcome limit IsMade (left source) (left source_now) result)
    (CountsTaking (failures source) (failures source_now) result)
