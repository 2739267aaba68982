-- The text that a parser has read.
use Rattle.std.specs.Prelude.{◌≡◌, ℕ, List, [], Option, Some, None}
use Rattle.docker_model.specs.state.StateText.{Format}
use Rattle.docker_bytes.specs.declared.fault.StateFault.{StateFault}
use Rattle.docker_bytes.specs.declared.reading.StateReading.{StateReading}
use Rattle.docker_bytes.specs.StateReading.{format_of, text_of, IsReading}

-- a parser as clauses see it: the reading of its text, and the fault that it has returned, if any
pub record ParserState (K : Type 0) : Type 0 where
  pub reading : StateReading K
  pub fault : Option StateFault

-- says that the reading is sound, unless a fault was returned
abbrev pub IsSound : {K : Type 0} → StateReading K → Option StateFault → Type 0
IsSound reading fault = fault ≡ None → IsReading reading

-- says that the parser has used exactly these bytes and returned no fault, and that the parser has
-- this format and this limit
pub record HasRead {K : Type 0} (parser : ParserState K) (format : Format) (limit : ℕ) (text : List ℕ) : Type 0 where
  pub no_fault : parser.fault ≡ None
  pub sound : IsReading parser.reading
  pub format_is : format_of parser.reading ≡ format
  pub limit_is : parser.reading.limit ≡ limit
  pub text_is : text_of parser.reading ≡ text

-- says that the parser has returned this fault
abbrev pub HasFailed : {K : Type 0} → ParserState K → StateFault → Type 0
HasFailed parser fault = parser.fault ≡ Some fault

-- says that the parser has read no bytes, and has returned no fault
abbrev pub IsUnread : {K : Type 0} → ParserState K → Type 0
IsUnread parser = HasRead parser (format_of parser.reading) parser.reading.limit []
