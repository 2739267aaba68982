-- States with the same text are equal. A reader with a limit stops at no more than one stage of a
-- text.
use Rattle.cif_laws.proofs.Common.{◌≡◌, ℕ, ◌+◌, ◌≤◌, List, [], ◌++◌, length, ap, sym, ◌∙◌, subst, inl, inr, arith, append_assoc, append-nil, length-append}
use Rattle.cif_laws.proofs.Common.{common_steps, rules, State, Format, state_text, Before, at_end, text_before, width, AreGood, StateCause, StateFault}
use Rattle.cif_laws.proofs.Common.{IsBadPart, HasBadPart, IsLong}
use Rattle.std.proofs.lemmas.List.{append_cancel_left}
use Rattle.docker_model.specs.state.StateFault.{IsShort}
use Rattle.cif_laws.proofs.lists.Fronts.{same_front}
use Rattle.state_laws.proofs.texts.TextStages.{IsLater, AreInLine, in_line}
use Rattle.state_laws.proofs.texts.PartsReached.{reach}

-- the state at this stage if the stage is the end of a text, and otherwise the state `other`
pub state_or : State → Before → State
state_or other (at_end state) = state
state_or other _ = other

-- if the stages `at_end` of two states are equal, the states are equal
pub same_end : (first second : State) → at_end first ≡ at_end second → first ≡ second
unfolding state_or
same_end first second same = ap (state_or first) same

-- no stage is later than the end of the text
pub no_part_at_end : (format : Format) → (state : State) (after : Before) → IsLater format (at_end state) after → ⊥
no_part_at_end format state after later = let some = later.is_next.some in omega arith

-- if all parts before two stages of one text are good, the stages are equal, or one is later than
-- the other
pub both_in_line : (format : Format) → (text : List ℕ) (first second : Before) (rest more : List ℕ) → AreGood format first → AreGood format second
    → text ≡ text_before format first ++ rest → text ≡ text_before format second ++ more → AreInLine format first second
both_in_line format text first second rest more good also one two = in_line _ _ _ _ _ _ (reach _ _ good) (reach _ _ also) (sym one ∙ two)

-- if a state's text is a prefix of another state's text, the two states are equal
pub no_front : (format : Format) → (first second : State) (rest : List ℕ) → AreGood format (at_end first) → AreGood format (at_end second)
    → state_text format first ++ rest ≡ state_text format second → (first ≡ second) × (rest ≡ [])
no_front format first second rest good also same = by (both_in_line _ _ _ _ _ _ good also
    (sym same ∙ ap (λ xs. xs ++ rest) (sym (append-nil (state_text format first))))
    (sym (append-nil (state_text format second)) ∙ sym (append-nil (state_text format second ++ []))))
  where
    by : AreInLine format (at_end first) (at_end second) → (first ≡ second) × (rest ≡ [])
    by (inl ends) =
        let states = same_end _ _ ends in
        (states, append_cancel_left (state_text format first) rest [] (same ∙ ap (state_text format) (sym states) ∙ sym (append-nil (state_text format first))))
    by (inr (inl later)) = absurd (no_part_at_end _ _ _ later)
    by (inr (inr later)) = absurd (no_part_at_end _ _ _ later)

-- valid states with the same text are equal
pub one_text : (format : Format) → (first second : State) → AreGood format (at_end first) → AreGood format (at_end second)
    → state_text format first ≡ state_text format second → first ≡ second
one_text format first second good also same = (no_front format first second [] good also (append-nil (state_text format first) ∙ same)).0

-- no stage of a text is later than a bad part
pub bad_stops : (format : Format) → (text : List ℕ) (before after : Before) (bytes rest more : List ℕ) (cause : StateCause) → length bytes ≡ width before
    → IsBadPart format before bytes cause
    → text ≡ text_before format before ++ bytes ++ rest → text ≡ text_before format after ++ more → IsLater format before after → ⊥
bad_stops = search (rules, append_cancel_left, append_assoc, same_front)

-- a text that begins with a state's text has no bad part
pub no_bad_part : (format : Format) → (limit : ℕ) (text : List ℕ) (state : State) (rest : List ℕ) (fault : StateFault) → AreGood format (at_end state)
    → text ≡ state_text format state ++ rest → ¬ HasBadPart format limit text fault
no_bad_part format limit text state rest fault good is has = by (both_in_line _ _ _ _ _ _ has.good good
    (has.whole ∙ append_assoc (text_before format has.before) has.bytes has.rest) whole)
  where
    whole : text ≡ text_before format (at_end state) ++ rest
    whole = is ∙ ap (λ xs. xs ++ rest) (sym (append-nil (state_text format state)))

    by : AreInLine format has.before (at_end state) → ⊥
    by (inl same) = subst (λ before. IsBadPart format before has.bytes fault.cause) same has.bad
    by (inr (inl later)) = bad_stops _ _ _ _ _ _ _ _ has.size has.bad has.whole whole later
    by (inr (inr later)) = no_part_at_end _ _ _ later

-- if a reader with this limit reads the text, it stops at this stage: it reaches this stage, and no
-- later stage
pub record IsStopped (format : Format) (limit : ℕ) (text : List ℕ) (before : Before) : Type 0 where
  pub good : AreGood format before
  pub rest : List ℕ
  pub whole : text ≡ text_before format before ++ rest
  pub within : length (text_before format before) ≤ limit
  pub stops : (after : Before) (more : List ℕ) → IsLater format before after → text ≡ text_before format after ++ more
      → length (text_before format after) ≤ limit → ⊥

-- a reader with a limit stops at no more than one stage of a text
pub one_stop : (format : Format) → (limit : ℕ) (text : List ℕ) (first second : Before) → IsStopped format limit text first → IsStopped format limit text second
    → first ≡ second
one_stop format limit text first second one two = elim (both_in_line format text first second one.rest two.rest one.good two.good one.whole two.whole) [
  | inl same ↦ same
  | inr (inl later) ↦ absurd (one.stops second two.rest later two.whole two.within)
  | inr (inr later) ↦ absurd (two.stops first one.rest later one.whole one.within)
]

-- the text before a later stage has three pieces. The first is the text before the earlier stage,
-- and the second is the part that comes next at the earlier stage. The third has all bytes between
-- this part and the later stage. The length of the text is the sum of the three lengths
pub later_size : (format : Format) → (before after : Before) (later : IsLater format before after)
    → length (text_before format before) + width before + length later.more ≡ length (text_before format after)
later_size = search (rules, length-append)

-- a reader stops before a bad part
pub stop_of_bad : (format : Format) → (limit : ℕ) (text : List ℕ) (fault : StateFault) (has : HasBadPart format limit text fault)
    → IsStopped format limit text has.before
stop_of_bad format limit text fault has = record {
  good = has.good;
  rest = has.bytes ++ has.rest;
  whole = has.whole ∙ append_assoc (text_before format has.before) has.bytes has.rest;
  within = let low = has.below_limit in omega arith;
  stops = λ after more later is within. bad_stops format text has.before after has.bytes has.rest more fault.cause has.size has.bad has.whole is later;
}

-- a reader stops before a part that goes past the limit
pub stop_of_long : (format : Format) → (limit : ℕ) (text : List ℕ) (fault : StateFault) (is : IsLong format limit text fault)
    → IsStopped format limit text is.before
stop_of_long = grind (common_steps, arith, later_size)

-- a reader stops before a part that the end of the text cuts off
pub stop_of_short : (format : Format) → (limit : ℕ) (text : List ℕ) (fault : StateFault) (is : IsShort format limit text fault)
    → IsStopped format limit text is.before
stop_of_short = search (rules, length-append, later_size)

-- a reader stops at the end of a state
pub stop_at_end : (format : Format) → (limit : ℕ) (text : List ℕ) (state : State) (rest : List ℕ) → AreGood format (at_end state)
    → text ≡ state_text format state ++ rest → length (state_text format state) ≤ limit → IsStopped format limit text (at_end state)
stop_at_end format limit text state rest good whole within = record {
  good = good;
  rest = rest;
  whole = whole ∙ ap (λ xs. xs ++ rest) (sym (append-nil (state_text format state)));
  within = subst (λ xs. length xs ≤ limit) (sym (append-nil (state_text format state))) within;
  stops = λ after more later is low. no_part_at_end format state after later;
}
