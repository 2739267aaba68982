-- How the reading of a CIF file from a source ends.
use Rattle.std.specs.Prelude.{◌≡◌, ℕ, ◌+◌, List, Option, Result, Ok, Err, ⊤}
use Rattle.cif_device.specs.Device.{IsEnd}
use Rattle.cif_device.specs.FeedEnds.{most_at_once}
use Rattle.cif_file.specs.declared.fault.FileReadFault.{FileReadFault}
use Rattle.cif_file.specs.declared.fault.FileReadFault.TheVariants.{Source, File, Memory}
use Rattle.cif_file.specs.SourceRead.{ReadsNoFurther, RefusesText}

-- a statement that memory ran out while a file was read. Its parameters are the greatest length of
-- a piece, the limit on records, and the bytes left in the source before and after reading
abbrev pub Wanting : Type 1
Wanting = (most limit : ℕ) (left left_now : Option (List ℕ)) → Type 0

-- Says why no file was read: the source failed, its text has this fault, or memory ran out.
abbrev pub IsWhyNoFile : Wanting → ℕ → Option (List ℕ) → Option (List ℕ) → FileReadFault → Type 0
IsWhyNoFile wants limit left left_now Source = ⊤
IsWhyNoFile wants limit left left_now (File fault) = RefusesText limit left fault
IsWhyNoFile wants limit left left_now Memory = wants most_at_once limit left left_now

-- Says how the number of the source's failures has changed. If a failure of the source is the
-- reason why no file was read, the number has grown by one. Otherwise the number is unchanged.
abbrev pub CountsWhyNoFile : FileReadFault → ℕ → ℕ → Type 0
CountsWhyNoFile Source failures failures_now = failures_now ≡ failures + 1
CountsWhyNoFile (File fault) failures failures_now = failures_now ≡ failures
CountsWhyNoFile Memory failures failures_now = failures_now ≡ failures

-- Says what the result of reading means. If the result is a value, `IsMade` holds for the value,
-- and the source was read to its end. If the result is a fault, it says why there is no value.
abbrev pub IsFileOutcome : {A : Type 0} → Wanting → ℕ → (A → Type 0) → Option (List ℕ) → Option (List ℕ) → Result A FileReadFault → Type 0
IsFileOutcome wants limit IsMade left left_now (Ok made) = IsMade made × IsEnd left_now
IsFileOutcome wants limit IsMade left left_now (Err fault) = IsWhyNoFile wants limit left left_now fault

-- Says how the number of the source's failures has changed when reading returns this result.
abbrev pub CountsFileOutcome : {A : Type 0} → ℕ → ℕ → Result A FileReadFault → Type 0
CountsFileOutcome failures failures_now (Ok made) = failures_now ≡ failures
CountsFileOutcome failures failures_now (Err fault) = CountsWhyNoFile fault failures failures_now

-- Says that reading stopped at the piece that determines the result. `Outcome` says what the result
-- means for the text, and `Counted` how often the source has failed.
pub record StopsReadingFile (limit : ℕ) (left left_now : Option (List ℕ)) (Outcome Counted : Type 0) : Type 0 where
  pub no_further : ReadsNoFurther most_at_once limit left left_now
  pub outcome : Outcome
  pub failures : Counted

-- Says how the reading of a file with at most `limit` records has ended. `left` returns the bytes
-- left in a source, and `failures` its number of failures.
abbrev pub EndsReadingFile : {S A : Type 0} → Wanting → (S → Option (List ℕ)) → (S → ℕ) → ℕ → (A → Type 0) → S → S → Result A FileReadFault → Type 0
EndsReadingFile wants left failures limit IsMade source source_now result =
    StopsReadingFile limit (left source) (left source_now) (IsFileOutcome wants limit IsMade (left source) (left source_now) result)
    (CountsFileOutcome (failures source) (failures source_now) result)
