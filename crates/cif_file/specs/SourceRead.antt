-- Defines which text a source held, and what reading this text as a CIF file returned.
use Rattle.std.specs.Prelude.{◌≡◌, ℕ, ◌<◌, ◌≤◌, ◌⊎◌, List, [], ◌++◌, length, Option, Some}
use Rattle.docker_model.specs.file.Text.{lines_of, complete_lines}
use Rattle.docker_model.specs.file.FaultSoFar.{IsFaultSoFar, sure_lines}
use Rattle.docker_model.specs.file.FileFault.{FileCause, IsFileFault, IsFileText}
use Rattle.docker_model.specs.file.FileFault as model
use Rattle.cif_device.specs.Device.{Held, Reads}
use Rattle.cif_file.specs.declared.file.ended.Ended.{Ended}
use Rattle.cif_file.specs.declared.fault.FileFault.{FileFault}
use Rattle.cif_change.specs.Cause.{cause_meant}
use Rattle.cif_file.specs.FileRead.{FileRead, FileCounted}
use Rattle.cif_file.specs.KeeperRead.{Keeps}
use Rattle.cif_file.specs.ParserRead.{IsOfFileText, IsCountOfFileText, IsEndedText, WantsMemoryAt}

-- Says that the source held the text of this file, which is within the limit on records.
pub record ReadsText (limit : ℕ) (left : Option (List ℕ)) (file : FileRead) : Type 0 where
  pub text : List ℕ
  pub held : Held left text
  pub of_text : IsOfFileText file limit text

-- Says that the source held the text of a file within the limit on records, and that these are its
-- counts.
pub record CountsText (limit : ℕ) (left : Option (List ℕ)) (count : FileCounted) : Type 0 where
  pub text : List ℕ
  pub held : Held left text
  pub of_text : IsCountOfFileText count limit text

-- Says that the source held the text of a file within the limit on records, and that this is the
-- reader's result for the file.
pub record ReadsEnded {K : Type 0} (keeps : Keeps K) (limit : ℕ) (left : Option (List ℕ)) (ended : Ended K) : Type 0 where
  pub text : List ℕ
  pub held : Held left text
  pub of_text : IsEndedText keeps limit text ended

-- Says that this is a fault of the text, with a cause other than `Memory`.
pub record IsFaultOf (limit : ℕ) (text : List ℕ) (fault : FileFault) : Type 0 where
  pub cause : FileCause
  pub cause_is : cause_meant fault.cause ≡ Some cause
  pub is : IsFileFault limit text (record { number = fault.number; cause = cause })

-- Says that the source held a text with this fault.
pub record RefusesText (limit : ℕ) (left : Option (List ℕ)) (fault : FileFault) : Type 0 where
  pub text : List ℕ
  pub held : Held left text
  pub is : IsFaultOf limit text fault

-- Says that no piece was read after a fault was found. The text before the last piece has no fault,
-- and the last piece has at most `most` bytes.
pub record ReadsNoFurther (most limit : ℕ) (old new : Option (List ℕ)) : Type 0 where
  pub before : List ℕ
  pub piece : List ℕ
  pub sound : (fault : model.FileFault) → ¬ IsFaultSoFar limit before fault
  pub at_once : length piece ≤ most
  pub read : Reads old (before ++ piece) new

-- Says that memory ran out at a record that is complete only with the last piece. No record up to
-- that record is at fault. The last piece has at most `most` bytes.
pub record WantsRecord (most limit : ℕ) (old new : Option (List ℕ)) : Type 0 where
  pub before : List ℕ
  pub piece : List ℕ
  pub read : Reads old (before ++ piece) new
  pub at_once : length piece ≤ most
  pub number : ℕ
  pub first : sure_lines before < number
  pub wanting : WantsMemoryAt limit (complete_lines (before ++ piece)) number

-- Says that memory ran out at the last record of the text that the source held. The text is a CIF
-- file within the limit. So the text doesn't lack its trailer.
pub record WantsLast (limit : ℕ) (left : Option (List ℕ)) : Type 0 where
  pub text : List ℕ
  pub held : Held left text
  pub wanting : WantsMemoryAt limit (lines_of text) (length (lines_of text))
  pub is_file : IsFileText limit text (lines_of text)

-- Says that memory ran out before a byte was read or, if `wants` holds, at a record. The condition
-- `wants` says that the keeper may run out of memory. No record up to that record is at fault. The
-- record at which memory ran out is complete only with the last piece, or is the last record of the
-- text.
abbrev pub WantsMemoryBy : Type 0 → ℕ → ℕ → Option (List ℕ) → Option (List ℕ) → Type 0
WantsMemoryBy wants most limit old new = Reads old [] new ⊎ (wants × (WantsRecord most limit old new ⊎ WantsLast limit old))

-- Says that memory ran out before a byte was read, or at a record. No record up to that record is
-- at fault. The record at which memory ran out is complete only with the last piece, or is the last
-- record of the text.
abbrev pub WantsMemory : ℕ → ℕ → Option (List ℕ) → Option (List ℕ) → Type 0
WantsMemory most limit old new = Reads old [] new ⊎ WantsRecord most limit old new ⊎ WantsLast limit old

-- Says that memory ran out before a byte was read.
abbrev pub WantsAtStart : ℕ → ℕ → Option (List ℕ) → Option (List ℕ) → Type 0
WantsAtStart most limit old new = Reads old [] new
