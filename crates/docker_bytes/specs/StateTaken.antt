-- The text that a parser has read, and the meaning of a fault that the parser returns for a piece.
use Rattle.std.specs.Prelude.{◌≡◌, ◌≢◌, ℕ, ◌^◌, ◌<◌, List, ◌++◌, length}
use Rattle.std.proofs.Common.{arith, ap, length-append}
use Rattle.docker_model.specs.state.StateText.{Format}
use Rattle.docker_model.specs.state.StatePart.{text_before}
use Rattle.docker_bytes.specs.declared.fault.StateFault.{StateFault}
use Rattle.docker_bytes.specs.declared.read.ReadFault.{ReadFault}
use Rattle.docker_bytes.specs.declared.read.ReadFault.TheVariants as fault
use Rattle.docker_bytes.specs.ParserRead.{ParserState, HasRead}
use Rattle.docker_bytes.specs.StateReading.{before_of, format_of, IsWanting}
use Rattle.docker_bytes.specs.SourceRead.{IsFaultOf}

-- the settings of a parser: the format of the text, and the limit on its length in bytes. The
-- settings never change
pub record StateSettings : Type 0 where
  pub format : Format
  pub limit : ℕ

-- says that the parser has read this text and returned no fault, and that the parser's limit fits
-- in 64 bits
pub record TakesState {K : Type 0} (parser : ParserState K) (settings : StateSettings) (text : List ℕ) : Type 0 where
  pub read : HasRead parser settings.format settings.limit text
  pub small : settings.limit < 2 ^ 64

-- a text that a parser has read is at most as long as the limit, so its length fits in 64 bits
pub taken_is_bounded : {K : Type 0} (parser : ParserState K) (settings : StateSettings) (text : List ℕ) → TakesState parser settings text → length text < 2 ^ 64
taken_is_bounded parser settings text has =
    let reading = parser.reading in
    let same = ap length has.read.text_is in
    let sum = length-append (text_before (format_of reading) (before_of reading)) reading.partial.items in
    let reached = has.read.sound.reached_is in
    let within = has.read.sound.within in
    let limit = has.read.limit_is in
    let small = has.small in
    omega (arith, same, sum, reached, within, limit, small)

-- says what a parser's fault for a piece after a text means. A fault of the text is the fault of every text that begins with this text and this piece. `Memory`
-- means that there was no memory for a part that ends in the piece
pub record RefusesPart {K : Type 0} (parser : ParserState K) (settings : StateSettings) (text piece : List ℕ) (told : ReadFault) : Type 0 where
  pub state : (found : StateFault) → told ≡ fault.State found → (rest : List ℕ) → IsFaultOf settings.format settings.limit ((text ++ piece) ++ rest) found
  pub memory : told ≡ fault.Memory → (at : ℕ) × IsWanting settings.format settings.limit text piece at
  pub apart : told ≢ fault.Source
