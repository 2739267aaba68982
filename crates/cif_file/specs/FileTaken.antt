-- Defines what a parser has taken of a source's text, and what a fault in the next piece means.
use Rattle.std.specs.Prelude.{◌≡◌, ℕ, ◌^◌, ◌<◌, ◌≤◌, List, ◌++◌, length}
use Rattle.std.proofs.Common.{arith}
use Rattle.docker_model.specs.file.File.{most_records}
use Rattle.docker_model.specs.file.FaultSoFar.{IsFaultSoFar, sure_lines}
use Rattle.docker_model.specs.file.FileFault as model
use Rattle.cif_laws.proofs.files.ReportedBound.{text_without_fault_is_bounded}
use Rattle.cif_change.specs.declared.cause.FileCause.TheVariants.{Memory}
use Rattle.cif_file.specs.declared.fault.FileFault.{FileFault}
use Rattle.cif_file.specs.declared.read.parser.FileReading.{FileReading}
use Rattle.cif_file.specs.KeeperRead.{Keeps}
use Rattle.cif_file.specs.ParserRead.{IsReading, IsFaultReported}

-- Says that the parser has taken this text under this limit on records, and that the text has no
-- fault yet.
pub record TakesFile {K : Type 0} (keeps : Keeps K) (reading : FileReading K) (limit : ℕ) (text : List ℕ) : Type 0 where
  pub read : IsReading keeps reading limit text
  pub few : limit ≤ most_records
  pub sound : (fault : model.FileFault) → ¬ IsFaultSoFar limit text fault

-- a text without a fault has at most 82 bytes for each record that the limit allows, and 81 more.
-- So the length of the text fits in 64 bits
pub taken_is_bounded : {K : Type 0} (keeps : Keeps K) (reading : FileReading K) (limit : ℕ) (text : List ℕ) → TakesFile keeps reading limit text
    → length text < 2 ^ 64
taken_is_bounded keeps reading limit text has =
    let most = text_without_fault_is_bounded limit text has.sound in
    let few = has.few in
    omega (arith, most, few)

-- Says that this is the fault of a text followed by a piece, at a record that is complete only with
-- the piece. Also says that the cause is `Memory` only if `wants` holds, that is, if the keeper may
-- run out of memory.
pub record RefusesPiece (wants : Type 0) (limit : ℕ) (text piece : List ℕ) (fault : FileFault) : Type 0 where
  pub reported : IsFaultReported limit (text ++ piece) fault
  pub later : sure_lines text < fault.number
  pub wanted : fault.cause ≡ Memory → wants
