-- What the result of reading a source implies for the text that the source held.
use Rattle.std.specs.Prelude.{◌≡◌, ℕ, ◌≤◌, ◌⊎◌, List, [], ◌++◌, length, Option, Some, None}
use Rattle.cif_device.specs.Device.{Held, Reads}
use Rattle.docker_model.specs.state.State.{State, IsJoin, raise_horizon}
use Rattle.docker_model.specs.state.StateText.{Format}
use Rattle.docker_model.specs.state.StateFault.{IsStateFault, IsStateText}
use Rattle.docker_model.specs.state.StateFault as model
use Rattle.docker_bytes.specs.declared.fault.StateFault.{StateFault}
use Rattle.state_text.specs.FaultMeaning.{cause_meant}
use Rattle.docker_bytes.specs.StateReading.{IsMadeOf, IsWhole, IsOpen, IsWanting}
use Rattle.docker_bytes.specs.ParserRead.{ParserState, HasRead}

-- says that the source held the text of this state in this format, and that the text isn't longer
-- than the limit
pub record ReadsState (format : Format) (limit : ℕ) (left : Option (List ℕ)) (state : State) : Type 0 where
  pub text : List ℕ
  pub held : Held left text
  pub is : IsStateText format limit text state

-- says that `made` is the value that a keeper makes from the state whose text the source held. The
-- text is in this format, and isn't longer than the limit
pub record ReadsMade {Made : Type 0} (makes : Made → State → Type 0) (format : Format) (limit : ℕ) (left : Option (List ℕ)) (made : Made) : Type 0 where
  pub text : List ℕ
  pub held : Held left text
  pub of : IsMadeOf makes format limit text made

-- says that the text has a fault with this offset and this cause. The cause `None` means that memory ran out, which is never a fault of a text
abbrev pub IsCauseOf : Format → ℕ → List ℕ → ℕ → Option model.StateCause → Type 0
IsCauseOf format limit text at None = ⊥
IsCauseOf format limit text at (Some cause) = IsStateFault format limit text (record { at = at; cause = cause })

-- says the same as `IsCauseOf`, for a fault of the code's type
abbrev pub IsFaultOf : Format → ℕ → List ℕ → StateFault → Type 0
IsFaultOf format limit text fault = IsCauseOf format limit text fault.at (cause_meant fault.cause)

-- says that the source held a text with this fault
pub record RefusesState (format : Format) (limit : ℕ) (left : Option (List ℕ)) (fault : StateFault) : Type 0 where
  pub text : List ℕ
  pub held : Held left text
  pub is : IsFaultOf format limit text fault

-- says that a text and then one more piece were read from a source. The text has no fault, and may
-- be incomplete. The piece has at most `most` bytes
pub record ReadsOnePieceMore (format : Format) (most limit : ℕ) (old new : Option (List ℕ)) : Type 0 where
  pub text : List ℕ
  pub piece : List ℕ
  pub lost : Reads old (text ++ piece) new
  pub few : length piece ≤ most
  pub sound : IsOpen format limit text ⊎ IsWhole format limit text

-- says that there was no memory for a part that ends in the last piece read, which has at most `most` bytes
pub record WantsPart (format : Format) (most limit : ℕ) (old new : Option (List ℕ)) : Type 0 where
  pub text : List ℕ
  pub piece : List ℕ
  pub lost : Reads old (text ++ piece) new
  pub few : length piece ≤ most
  pub at : ℕ
  pub wanting : IsWanting format limit text piece at

-- says that memory ran out, either before any byte was read or while the reader read a part that
-- ends in the last piece read. No part up to and including this part is bad
abbrev pub WantsSoFar : Format → ℕ → ℕ → Option (List ℕ) → Option (List ℕ) → Type 0
WantsSoFar format most limit old new = Reads old [] new ⊎ WantsPart format most limit old new

-- says that a parser has read all bytes that a source held
pub record ReadsAll {K : Type 0} (format : Format) (limit : ℕ) (left : Option (List ℕ)) (parser : ParserState K) : Type 0 where
  pub text : List ℕ
  pub held : Held left text
  pub read : HasRead parser format limit text

-- says that `after` is the state whose text the source held, after its horizon was raised to this
-- day. The text is in this format, and isn't longer than the limit
pub record RaisesState (format : Format) (limit : ℕ) (left : Option (List ℕ)) (day : ℕ) (after : State) : Type 0 where
  pub own : State
  pub reads : ReadsState format limit left own
  pub raised : after ≡ raise_horizon day own

-- says that `after` is the join of the state `own` with the state whose text the source held
pub record JoinsState (format : Format) (limit : ℕ) (left : Option (List ℕ)) (own after : State) : Type 0 where
  pub received : State
  pub read : ReadsState format limit left received
  pub join : IsJoin own received after

-- says that memory ran out. It ran out before any byte was read, while the reader read a part that
-- ends in the last piece read, or at the end of a state's text. No part that was read is bad
abbrev pub WantsMemory : Format → ℕ → ℕ → Option (List ℕ) → Option (List ℕ) → Type 0
WantsMemory format most limit old new = Reads old [] new ⊎ WantsPart format most limit old new ⊎ ((state : State) × ReadsState format limit old state)
