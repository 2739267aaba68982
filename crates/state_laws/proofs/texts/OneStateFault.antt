-- A text has at most one fault. If a state's text is within the limit, it has no fault.
use Rattle.cif_laws.proofs.Common.{◌≡◌, ℕ, ◌+◌, ◌≤◌, List, ◌∷◌, ◌++◌, length, ap, sym, ◌∙◌, rules, subst, inl, inr, arith, append_assoc, append-nil}
use Rattle.cif_laws.proofs.Common.{length-append, State, Format, state_text, Before, at_end, text_before, width, StateCause, StateFault, IsBadPart, HasBadPart}
use Rattle.cif_laws.proofs.Common.{IsLong, IsStateFault, IsStateText}
use Rattle.docker_model.specs.state.StatePart.{items_before}
use Rattle.docker_model.specs.state.StateFault.{IsShort, HasTail}
use Rattle.cif_laws.proofs.lists.Fronts.{same_front}
use Rattle.state_laws.proofs.texts.TextsApart.{same_end, IsStopped, one_stop, stop_of_bad, stop_of_long, stop_of_short, stop_at_end}

one_cause : (format : Format) → (before : Before) (bytes : List ℕ) (first second : StateCause) → IsBadPart format before bytes first
    → IsBadPart format before bytes second → first ≡ second
one_cause = search rules

-- two faults with the same offset and cause are equal
fault_is : (first second : StateFault) → first.at ≡ second.at → first.cause ≡ second.cause → first ≡ second
fault_is first second ats causes = λ i. record { at = ats i; cause = causes i }

bad_and_bad : (format : Format) → (limit : ℕ) (text : List ℕ) (first second : StateFault) → HasBadPart format limit text first
    → HasBadPart format limit text second → first ≡ second
bad_and_bad format limit text first second one two =
    let same = one_stop format limit text one.before two.before (stop_of_bad format limit text first one) (stop_of_bad format limit text second two) in
    let behind = same_front (text_before format one.before) (text_before format two.before) (one.bytes ++ one.rest) (two.bytes ++ two.rest)
    (ap (λ before. length (text_before format before)) same)
    (search (rules, append_assoc)) in
    let parts = same_front one.bytes two.bytes one.rest two.rest (one.size ∙ ap width same ∙ sym two.size) behind.1 in
    let bad = subst (λ bytes. IsBadPart format two.before bytes first.cause) parts.0
    (subst (λ before. IsBadPart format before one.bytes first.cause) same one.bad) in
    search (rules, one_cause)

bad_and_long : (format : Format) → (limit : ℕ) (text : List ℕ) (first second : StateFault) → HasBadPart format limit text first
    → IsLong format limit text second → ⊥
bad_and_long format limit text first second one two =
    let same = one_stop format limit text one.before two.before (stop_of_bad format limit text first one) (stop_of_long format limit text second two) in
    let sizes = ap (λ before. length (text_before format before) + width before) same in
    let low = one.below_limit in
    let high = two.needs in
    omega arith

bad_and_short : (format : Format) → (limit : ℕ) (text : List ℕ) (first second : StateFault) → HasBadPart format limit text first
    → IsShort format limit text second → ⊥
bad_and_short format limit text first second one two =
    let same = one_stop format limit text one.before two.before (stop_of_bad format limit text first one) (stop_of_short format limit text second two) in
    let sizes = ap (λ before. length (text_before format before)) same in
    let widths = ap width same in
    let here = ap length one.whole in
    let parts = length-append (text_before format one.before ++ one.bytes) one.rest in
    let front = length-append (text_before format one.before) one.bytes in
    let size = one.size in
    let there = ap length two.whole ∙ length-append (text_before format two.before) two.rest in
    let ends = two.ends in
    omega arith

-- if a reader of a text stops at the end of a state, the text has no bad part
end_and_bad : (format : Format) → (limit : ℕ) (text : List ℕ) (state : State) (fault : StateFault) → IsStopped format limit text (at_end state)
    → HasBadPart format limit text fault → ⊥
end_and_bad format limit text state fault stopped one = subst (λ before. IsBadPart format before one.bytes fault.cause) (one_stop _ limit _ one.before _
    (stop_of_bad format _ text _ one) stopped) one.bad

end_and_long : (format : Format) → (limit : ℕ) (text : List ℕ) (state : State) (fault : StateFault) → IsStopped format limit text (at_end state)
    → IsLong format limit text fault → ⊥
end_and_long format limit text state fault stopped one =
    let same = one_stop format limit text one.before (at_end state) (stop_of_long format limit text fault one) stopped in
    let widths : width one.before ≡ 0 = ap width same in
    let needs = one.needs in
    let reaches = one.reaches in
    omega arith

end_and_short : (format : Format) → (limit : ℕ) (text : List ℕ) (state : State) (fault : StateFault) → IsStopped format limit text (at_end state)
    → IsShort format limit text fault → ⊥
end_and_short format limit text state fault stopped one =
    let same = one_stop format limit text one.before (at_end state) (stop_of_short format limit text fault one) stopped in
    let widths : width one.before ≡ 0 = ap width same in
    let ends = one.ends in
    omega arith

stop_of_tail : (format : Format) → (limit : ℕ) (text : List ℕ) (fault : StateFault) (has : HasTail format limit text fault)
    → IsStopped format limit text (at_end has.state)
stop_of_tail format limit text fault has = stop_at_end format limit text has.state (has.next ∷ has.rest) has.valid has.whole has.within

long_and_short : (format : Format) → (limit : ℕ) (text : List ℕ) (first second : StateFault) → IsLong format limit text first → IsShort format limit text second
    → ⊥
long_and_short format limit text first second one two = let there = one.there in let within = two.within in omega arith

short_and_short : (format : Format) → (limit : ℕ) (text : List ℕ) (first second : StateFault) → IsShort format limit text first
    → IsShort format limit text second → first ≡ second
short_and_short format limit text first second one two =
    let same = one_stop format limit text one.before two.before (stop_of_short format limit text first one) (stop_of_short format limit text second two) in
    fault_is first second (one.item_at ∙ ap (λ before. length (items_before format before)) same ∙ sym two.item_at) (one.cause ∙ sym two.cause)

tail_and_tail : (format : Format) → (limit : ℕ) (text : List ℕ) (first second : StateFault) → HasTail format limit text first → HasTail format limit text second
    → first ≡ second
tail_and_tail format limit text first second one two =
    let same = same_end one.state two.state (one_stop format limit text (at_end one.state) (at_end two.state) (stop_of_tail format limit text first one)
    (stop_of_tail format limit text second two)) in
    fault_is first second (one.end_at ∙ ap (λ state. length (state_text format state)) same ∙ sym two.end_at) (one.cause ∙ sym two.cause)

-- a text has at most one state fault
pub one_fault : (format : Format) → (limit : ℕ) (text : List ℕ) (first second : StateFault) → IsStateFault format limit text first
    → IsStateFault format limit text second → first ≡ second
one_fault format limit text first second (inl one) (inl two) = bad_and_bad format limit text first second one two
one_fault format limit text first second (inl one) (inr (inl two)) = absurd (bad_and_long format limit text first second one two)
one_fault format limit text first second (inl one) (inr (inr (inl two))) = absurd (bad_and_short format limit text first second one two)
one_fault format limit text first second (inl one) (inr (inr (inr two))) = search (rules, end_and_bad, stop_of_tail, two.state)
one_fault format limit text first second (inr (inl one)) (inl two) = absurd (bad_and_long format limit text second first two one)
one_fault format limit text first second (inr (inl one)) (inr (inl two)) = fault_is first second (one.limit_at ∙ sym two.limit_at) (one.cause ∙ sym two.cause)
one_fault format limit text first second (inr (inl one)) (inr (inr (inl two))) = absurd (long_and_short format limit text first second one two)
one_fault format limit text first second (inr (inl one)) (inr (inr (inr two))) = search (rules, end_and_long, stop_of_tail, two.state)
one_fault format limit text first second (inr (inr (inl one))) (inl two) = absurd (bad_and_short format limit text second first two one)
one_fault format limit text first second (inr (inr (inl one))) (inr (inl two)) = absurd (long_and_short format limit text second first two one)
one_fault format limit text first second (inr (inr (inl one))) (inr (inr (inl two))) = short_and_short format limit text first second one two
one_fault format limit text first second (inr (inr (inl one))) (inr (inr (inr two))) = search (rules, end_and_short, stop_of_tail, two.state)
one_fault format limit text first second (inr (inr (inr one))) (inl two) = search (rules, end_and_bad, stop_of_tail, one.state)
one_fault format limit text first second (inr (inr (inr one))) (inr (inl two)) = search (rules, end_and_long, stop_of_tail, one.state)
one_fault format limit text first second (inr (inr (inr one))) (inr (inr (inl two))) = search (rules, end_and_short, stop_of_tail, one.state)
one_fault format limit text first second (inr (inr (inr one))) (inr (inr (inr two))) = tail_and_tail format limit text first second one two

-- if a state's text is within the limit, it has no fault
pub no_fault_of_state : (format : Format) → (limit : ℕ) (text : List ℕ) (state : State) (fault : StateFault) → IsStateText format limit text state
    → ¬ IsStateFault format limit text fault
no_fault_of_state format limit text state fault is found = elim found [
  | inl one ↦ end_and_bad format _ text _ fault stopped one
  | inr (inl one) ↦ end_and_long _ limit _ state _ stopped one
  | inr (inr (inl one)) ↦ end_and_short format _ text _ fault stopped one
  | inr (inr (inr one)) ↦
      let same = same_end _ state (one_stop _ limit _ (at_end one.state) _ (stop_of_tail format _ text _ one) stopped) in
      let sizes = ap (λ s. length (state_text format s)) same in
      let here = ap length is.is in
      let there = ap length one.whole ∙ length-append (state_text format one.state) (one.next ∷ one.rest) in
      omega arith
]
  where
    stopped : IsStopped format limit text (at_end state)
    stopped = stop_at_end _ limit _ state _ is.valid (is.is ∙ sym (append-nil (state_text format state))) (subst (λ xs. length xs ≤ limit) is.is is.within)
