-- The progress of reading a state's text, and the meaning of its faults.
use Rattle.std.specs.Prelude.{◌≡◌, ℕ, ◌+◌, ◌-◌, ◌<◌, ◌≤◌, ◌⊎◌, List, [], ◌++◌, length, take, Option, Some, None}
use Rattle.docker_model.specs.state.State.{State, IsJoin}
use Rattle.docker_model.specs.state.StateText.{Format}
use Rattle.docker_model.specs.state.StatePart.{Before, items_before, text_before, width, AreGood}
use Rattle.docker_model.specs.state.StateFault.{HasBadPart, IsLong, IsShort, IsStateText}
use Rattle.docker_model.specs.state.StateFault as model
use Rattle.cif_change.specs.declared.key.ScheduleKey.{ScheduleKey}
use Rattle.docker_join.specs.declared.stamp.Stamp.{Stamp}
use Rattle.docker_bytes.specs.declared.fault.StateFault.{StateFault}
use Rattle.docker_bytes.specs.declared.fault.Step.{Step}
use Rattle.docker_bytes.specs.declared.fault.Step.TheVariants.{Done, More}
use Rattle.docker_bytes.specs.declared.reading.StateReading.{StateReading}
use Rattle.state_text.specs.FaultMeaning.{cause_meant, IsWantingHere, IsBadHere}
use Rattle.state_text.specs.FormatMeaning.{format_meant}
use Rattle.state_text.specs.Stage.{stage_meant, IsReady}
use Rattle.state_text.specs.declared.stage.Stage.{Stage}
use Rattle.state_text.specs.declared.stage.Stage.TheVariants.{Line}

-- converts the format of the text to the `Format` of the definitions
abbrev pub format_of : {K : Type 0} → StateReading K → Format
format_of reading = format_meant reading.format

-- converts a reading to the `Before` of the definitions: the complete parts before the part that is being read
abbrev pub before_of : {K : Type 0} → StateReading K → Before
before_of reading = stage_meant reading.stage reading.parts reading.lines

-- all bytes that were read: the complete parts, and the first bytes of the next part
abbrev pub text_of : {K : Type 0} → StateReading K → List ℕ
text_of reading = text_before (format_of reading) (before_of reading) ++ reading.partial.items

-- says that a reading is sound: the parts that were read are good, the next part isn't complete,
-- and all bytes are within the limit
pub record IsReading {K : Type 0} (reading : StateReading K) : Type 0 where
  pub ready : IsReady (format_of reading) reading.stage reading.parts reading.lines
  pub short : length reading.partial.items ≤ width (before_of reading) - 1
  pub reached_is : reading.reached ≡ length (text_before (format_of reading) (before_of reading))
  pub item_is : reading.item_at ≡ length (items_before (format_of reading) (before_of reading))
  pub within : reading.reached + length reading.partial.items ≤ reading.limit

-- says that the reading `new` has read these bytes after the text of `old`. Both readings have the
-- same format and the same limit
pub record ReadsOn {K : Type 0} (old new : StateReading K) (bytes : List ℕ) : Type 0 where
  pub reading : IsReading new
  pub text : text_of new ≡ text_of old ++ bytes
  pub limit : new.limit ≡ old.limit
  pub format : format_of new ≡ format_of old

-- says that the next part is bad, or that there was no memory for it. The fault's offset is the beginning of the part's item
abbrev pub IsPartRefused : {K : Type 0} → StateReading K → List ℕ → StateFault → Type 0
IsPartRefused reading bytes fault = (fault.at ≡ reading.item_at) × IsBadHere (format_of reading) (before_of reading) bytes (cause_meant fault.cause)

-- says that there was no memory for a part of `text ++ piece` whose last byte is in `piece`. No part up to and including this part is bad, and `at` is the
-- beginning of the part's item
pub record IsWanting (format : Format) (limit : ℕ) (text piece : List ℕ) (at : ℕ) : Type 0 where
  pub before : Before
  pub good : AreGood format before
  pub bytes : List ℕ
  pub rest : List ℕ
  pub whole : text ++ piece ≡ text_before format before ++ bytes ++ rest
  pub size : length bytes ≡ width before
  pub below_limit : length (text_before format before) + width before ≤ limit
  pub here : IsWantingHere format before bytes
  pub ends_in_piece : length text < length (text_before format before) + width before
  pub item_at : at ≡ length (items_before format before)

-- says what it means that a parser returns this fault for a piece that follows a text: a part is bad, or the state's text goes past the limit. The cause `None`
-- means that memory ran out
abbrev pub IsCauseSoFar : Format → ℕ → List ℕ → List ℕ → ℕ → Option model.StateCause → Type 0
IsCauseSoFar format limit text piece at None = IsWanting format limit text piece at
IsCauseSoFar format limit text piece at (Some cause) =
    HasBadPart format limit (text ++ piece) (record { at = at; cause = cause }) ⊎ IsLong format limit (text ++ piece) (record { at = at; cause = cause })

-- says the same as `IsCauseSoFar`, for a fault of the code's type
abbrev pub IsFaultReported : Format → ℕ → List ℕ → List ℕ → StateFault → Type 0
IsFaultReported format limit text piece fault = IsCauseSoFar format limit text piece fault.at (cause_meant fault.cause)

-- says that the text is the text of a valid state, and isn't longer than the limit
abbrev pub IsWhole : Format → ℕ → List ℕ → Type 0
IsWhole format limit text = (state : State) × IsStateText format limit text state

-- says that the text ends before the state does, and has no other fault
abbrev pub IsOpen : Format → ℕ → List ℕ → Type 0
IsOpen format limit text = (fault : model.StateFault) × IsShort format limit text fault

-- says what it means for a parser to return this fault at the end of a text: the text ends before
-- the state does. The cause `None` means that memory ran out at the end of a complete text, and
-- that the offset is the end of this text
abbrev pub IsCauseAtEnd : Format → ℕ → List ℕ → ℕ → Option model.StateCause → Type 0
IsCauseAtEnd format limit text at None = IsWhole format limit text × (at ≡ length text)
IsCauseAtEnd format limit text at (Some cause) = IsShort format limit text (record { at = at; cause = cause })

-- says the same as `IsCauseAtEnd`, for a fault of the code's type
abbrev pub IsUnended : Format → ℕ → List ℕ → StateFault → Type 0
IsUnended format limit text fault = IsCauseAtEnd format limit text fault.at (cause_meant fault.cause)

-- says what a step means when `n` bytes of a piece were used after a text. `Done` means that the
-- text, followed by these bytes, is the text of a whole state. `More` means that all bytes were
-- used, and that the state needs more bytes
abbrev pub IsStep : Format → ℕ → List ℕ → List ℕ → ℕ × Step → Type 0
IsStep format limit text piece (n, Done) = IsWhole format limit (text ++ take n piece)
IsStep format limit text piece (n, More) = (n ≡ length piece) × IsOpen format limit (text ++ piece)

-- says that `made` is the value that a keeper makes from the parts of the state with this text
pub record IsMadeOf {Made : Type 0} (makes : Made → State → Type 0) (format : Format) (limit : ℕ) (text : List ℕ) (made : Made) : Type 0 where
  pub state : State
  pub is : IsStateText format limit text state
  pub made_of : makes made state

-- says that `after` is the join of the state `own` with the state that has this text
pub record JoinsText (format : Format) (limit : ℕ) (text : List ℕ) (own after : State) : Type 0 where
  pub received : State
  pub is : IsStateText format limit text received
  pub join : IsJoin own received after

-- says that the next part is one of the `count` lines of a schedule with this key
pub record IsLineOf (key : ScheduleKey) (count : ℕ) (at : Stage) : Type 0 where
  pub entries : ℕ
  pub stamp : Stamp
  pub is : at ≡ Line entries key stamp count

-- says that the next part is a line of the schedule with this key, but not the last of its `count` lines. No byte of this line has been read
pub record IsInnerLine {K : Type 0} (key : ScheduleKey) (count : ℕ) (reading : StateReading K) : Type 0 where
  pub stage : IsLineOf key count reading.stage
  pub more : length reading.lines + 1 < count
  pub fresh : reading.partial.items ≡ []

-- says that one more line of the schedule was read, and that the next part is a line again
pub record HasOneLineMore {K : Type 0} (old new : StateReading K) : Type 0 where
  pub stage : new.stage ≡ old.stage
  pub partial : new.partial.items ≡ old.partial.items
  pub reached : new.reached ≡ old.reached + 80
  pub lines : length new.lines ≡ length old.lines + 1
