-- If a reading has no next part, the text that was read is the text of a whole state. Otherwise it
-- isn't.
use Rattle.std.proofs.Common.{◌≡◌, ℕ, ◌<◌, List, length, ap, sym, ◌∙◌, inl, inr, ◌⊎◌, arith, append-nil, length-append, None, rules}
use Rattle.std.proofs.lemmas.Grind.{common_steps}
use Rattle.docker_model.specs.state.State.{State}
use Rattle.docker_model.specs.state.StateText.{Format}
use Rattle.docker_model.specs.state.StatePart.{at_end, items_before, width}
use Rattle.docker_model.specs.state.StateFault.{too_short, IsShort, IsStateText}
use Rattle.state_laws.proofs.texts.TextOrFault.{end_or_part}
use Rattle.state_laws.proofs.texts.OneStateFault.{no_fault_of_state}
use Rattle.state_text.specs.declared.stage.Stage.{Stage}
use Rattle.docker_bytes.specs.declared.reading.StateReading.{StateReading}
use Rattle.state_text.specs.Stage.{stage_meant}
use Rattle.docker_bytes.specs.StateReading.{format_of, before_of, text_of, IsReading, IsWhole, IsOpen, IsCauseAtEnd}
use Rattle.docker_bytes.specs.ParserRead.{ParserState, HasRead}
use Rattle.std.proofs.lemmas.Bool.{cases_lt}
use Rattle.std.proofs.lemmas.List.{nil_from_length}

state_at_end : (p : Stage) (parts state : State) (lines : List (List ℕ)) → stage_meant p parts lines ≡ at_end state → state ≡ parts
state_at_end = search rules

-- if there is no next part, all parts have been read
at_its_end : {K : Type 0} (reading : StateReading K) → IsReading reading → width (before_of reading) ≡ 0 → before_of reading ≡ at_end reading.parts
at_its_end = search (rules, end_or_part, state_at_end)

-- if there is no next part, the text that was read is the text of a whole state
pub whole_text : {K : Type 0} (reading : StateReading K) → IsReading reading → width (before_of reading) ≡ 0
    → IsStateText (format_of reading) reading.limit (text_of reading) reading.parts
whole_text = search (rules, nil_from_length, append-nil, length-append, at_its_end)

-- if there is no next part and memory runs out, the offset of the fault is the end of the text
pub wanting_at_end : {K : Type 0} (reading : StateReading K) → IsReading reading → width (before_of reading) ≡ 0
    → IsCauseAtEnd (format_of reading) reading.limit (text_of reading) reading.item_at None
wanting_at_end = grind (common_steps, arith, whole_text, at_its_end)

-- if there is a next part, the text is too short, and the offset of the fault is the beginning of
-- this part's item
pub short_at_end : {K : Type 0} (reading : StateReading K) → IsReading reading → 0 < width (before_of reading)
    → IsShort (format_of reading) reading.limit (text_of reading) (record { at = reading.item_at; cause = too_short })
short_at_end = search (rules, length-append)

-- if there is a next part, the state needs more bytes
pub open_reading : {K : Type 0} (reading : StateReading K) → IsReading reading → 0 < width (before_of reading)
    → IsOpen (format_of reading) reading.limit (text_of reading)
open_reading reading is some =
    (record { at = length (items_before (format_of reading) (before_of reading)); cause = too_short }, search (rules, length-append))

-- if the state needs more bytes after a text, the text isn't the text of a whole state
pub not_both : (format : Format) (limit : ℕ) (text : List ℕ) → IsOpen format limit text → ¬ IsWhole format limit text
not_both format limit text open_one whole = no_fault_of_state format limit text whole.0 open_one.0 whole.1 (inr (inr (inl open_one.1)))

-- a text that a parser has read has no fault: either the state needs more bytes, or the text is the
-- text of a whole state
pub sound_text : {K : Type 0} (parser : ParserState K) (format : Format) (limit : ℕ) (text : List ℕ) → HasRead parser format limit text
    → IsOpen format limit text ⊎ IsWhole format limit text
sound_text parser format limit text has = rw (← has.text_is, ← has.limit_is, ← has.format_is) (elim (cases_lt 0 (width (before_of parser.reading))) [
  | inl some ↦ inl (open_reading _ has.sound some)
  | inr none ↦ inr (parser.reading.parts, whole_text _ has.sound (omega arith))
])

-- if there is a next part, the text that a parser has read isn't whole
pub not_whole_yet : {K : Type 0} (parser : ParserState K) (reading : StateReading K) (format : Format) (limit : ℕ) (text : List ℕ) → parser.reading ≡ reading
    → HasRead parser format limit text → ¬ (width (before_of reading) ≡ 0) → ¬ IsWhole format limit text
not_whole_yet parser reading format limit text same has some =
    let none : ¬ (width (before_of parser.reading) ≡ 0) = λ none. some (sym (ap (λ r. width (before_of r)) same) ∙ none) in
    not_both _ _ _ (rw (← has.text_is, ← has.limit_is, ← has.format_is) (open_reading _ has.sound (omega arith)))
