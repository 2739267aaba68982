-- Each text either has a fault, or is within the limit and is the text of a state. The proof walks
-- over the parts of the text.
use Rattle.cif_laws.proofs.Common.{◌≡◌, ℕ, zero, suc, ◌+◌, ◌<◌, ◌≤◌, List, ◌∷◌, ◌++◌, length, take, drop, refl, ap, rules, [], sym, ◌∙◌, subst, inl, inr, ◌⊎◌}
use Rattle.cif_laws.proofs.Common.{arith, append_assoc, append-nil, length-append, All, take-append-drop, length-take-le, recursion_from_All, State, Format}
use Rattle.cif_laws.proofs.Common.{state_text, Before, before_mark, at_end, text_before, width, AreGood, too_short, has_tail, StateFault, IsStateFault}
use Rattle.cif_laws.proofs.Common.{IsStateText}
use Rattle.docker_model.specs.state.StatePart.{items_before}
use Rattle.docker_model.specs.state.StateFault.{too_long}
use Rattle.state_laws.specs.TextStage.{advance}
use Rattle.cif_laws.proofs.lists.AllOf.{all_front, all_behind}
use Rattle.cif_laws.proofs.lists.Decisions.{le_decided}
use Rattle.state_laws.proofs.texts.StateBytes.{AreBytes}
use Rattle.state_laws.proofs.texts.PartJudged.{judge}

-- at each stage of a text, a reader is at the end of a state, or a part of at least one byte comes
-- next
pub end_or_part : (format : Format) → (before : Before) → AreGood format before → ((state : State) × (before ≡ at_end state)) ⊎ (0 < width before)
end_or_part = search rules

-- the text is within the limit and is the text of a state, or it has a fault
abbrev pub Answer : (format : Format) → ℕ → List ℕ → Type 0
Answer format limit text = ((state : State) × IsStateText format limit text state) ⊎ ((fault : StateFault) × IsStateFault format limit text fault)

record Walked (format : Format) (limit : ℕ) (text : List ℕ) (before : Before) (rest : List ℕ) : Type 0 where
  good : AreGood format before
  small : AreBytes rest
  whole : text ≡ text_before format before ++ rest
  within : length (text_before format before) ≤ limit

at_the_end : (format : Format) → (limit : ℕ) (text : List ℕ) (state : State) (rest : List ℕ) → Walked format limit text (at_end state) rest
    → Answer format limit text
at_the_end format limit text state [] told =
    let whole : text ≡ state_text format state = told.whole ∙ append-nil (state_text format state ++ []) ∙ append-nil (state_text format state) in
    inl (
      state,
      record {
        valid = told.good;
        is = whole;
        within = subst (λ xs. length xs ≤ limit)
            (sym (told.whole ∙ append-nil (state_text format state ++ []))) told.within;
      },
    )
at_the_end format limit text state (byte ∷ rest) told =
    let whole : text ≡ state_text format state ++ byte ∷ rest = told.whole ∙ ap (λ xs. xs ++ byte ∷ rest) (append-nil (state_text format state)) in
    inr (
      record { at = length (state_text format state); cause = has_tail },
      inr (inr (inr (record {
        state = state;
        valid = told.good;
        next = byte;
        rest = rest;
        whole = whole;
        within = subst (λ xs. length xs ≤ limit) (append-nil (state_text format state)) told.within;
        cause = refl;
        end_at = refl;
      }))),
    )

-- a part that goes past the limit is at fault, if the text goes past the limit too
too_far : (format : Format) → (limit : ℕ) (text : List ℕ) (before : Before) (rest : List ℕ) → Walked format limit text before rest
    → limit < length (text_before format before) + width before → limit < length text → Answer format limit text
too_far format limit text before rest told needs there = inr (
  record { at = limit; cause = too_long },
  inr (inl (record {
    before = before;
    good = told.good;
    rest = rest;
    whole = told.whole;
    reaches = told.within;
    needs = needs;
    there = there;
    cause = refl;
    limit_at = refl;
  })),
)

not_whole : (format : Format) → (limit : ℕ) (text : List ℕ) (before : Before) (rest : List ℕ) → Walked format limit text before rest
    → length rest < width before → Answer format limit text
not_whole format limit text before rest told ends = elim (le_decided (length text) limit) [
  | inl within ↦
      inr (
        record { at = length (items_before format before); cause = too_short },
        inr (inr (inl (record {
          before = before;
          good = told.good;
          rest = rest;
          whole = told.whole;
          ends = ends;
          within = within;
          cause = refl;
          item_at = refl;
        }))),
      )
  | inr above ↦
      let sizes = ap length told.whole ∙ length-append (text_before format before) rest in
      let there : limit < length text = omega arith in
      too_far format limit text before rest told (omega arith) there
]

one_part : (format : Format) → (limit : ℕ) (text : List ℕ) (before : Before) (rest : List ℕ) → Walked format limit text before rest → 0 < width before
    → width before ≤ length rest
    → ((after : Before) (more : List ℕ) → Walked format limit text after more → length more < length rest → Answer format limit text) → Answer format limit text
one_part format limit text before rest told some enough go_on = elim (le_decided (length (text_before format before) + width before) limit) [
  | inl below ↦ elim (judge format before part told.good some size (all_front (λ b. b < 256) part more small)) [
    | inl bad ↦
        inr (
          record { at = length (items_before format before); cause = bad.0 },
          inl (record {
            before = before;
            good = told.good;
            bytes = part;
            rest = more;
            whole = whole;
            size = size;
            below_limit = below;
            bad = bad.1;
            item_at = refl;
          }),
        )
    | inr fine ↦
        let sizes = ap length fine.1 ∙ length-append (text_before format before) part in
        let wide = size in
        let parts = ap length (sym split) ∙ length-append part more in
        go_on (advance format before part) more
        (record { good = fine.0; small = all_behind (λ b. b < 256) part more small; whole = whole ∙ ap (λ xs. xs ++ more) (sym fine.1); within = omega arith })
        (omega arith)
  ]
  | inr above ↦
      let sizes = ap length told.whole ∙ length-append (text_before format before) rest in
      let needs : limit < length (text_before format before) + width before = omega arith in
      too_far format limit text before rest told needs (omega arith)
]
  where
    part : List ℕ
    part = take (width before) rest

    more : List ℕ
    more = drop (width before) rest

    split : part ++ more ≡ rest
    split = take-append-drop (width before) rest

    size : length part ≡ width before
    size = length-take-le (width before) rest enough

    small : AreBytes (part ++ more)
    small = subst AreBytes (sym split) told.small

    whole : text ≡ text_before format before ++ part ++ more
    whole = told.whole ∙ ap (λ xs. text_before format before ++ xs) (sym split) ∙ sym (append_assoc (text_before format before) part more)

one_step_on : (format : Format) → (limit : ℕ) (text : List ℕ) (before : Before) (rest : List ℕ) → Walked format limit text before rest
    → ((after : Before) (more : List ℕ) → Walked format limit text after more → length more < length rest → Answer format limit text) → Answer format limit text
one_step_on format limit text before rest told go_on = elim (end_or_part format before told.good) [
  | inl end ↦ at_the_end format limit text end.0 rest (subst (λ b. Walked format limit text b rest) end.1 told)
  | inr some ↦ elim (le_decided (width before) (length rest)) [
    | inl enough ↦ one_part format limit text before rest told some enough go_on
    | inr short ↦ not_whole format limit text before rest told (omega arith)
  ]
]

walk : (format : Format) → (limit : ℕ) (text : List ℕ) (steps : ℕ) (before : Before) (rest : List ℕ) → Walked format limit text before rest
    → length rest ≤ steps → Answer format limit text
walk format limit text zero before rest told few = one_step_on format limit text before rest told (λ after more further less. absurd (omega arith))
walk format limit text (suc steps) before rest told few =
    one_step_on format limit text before rest told (λ after more further less. walk format limit text steps after more further (omega arith))

-- each list of bytes either is within the limit and is the text of a state, or has a fault
pub text_or_fault : (format : Format) → (limit : ℕ) (text : List ℕ) → All (λ b. b < 256) text → Answer format limit text
text_or_fault format limit text small =
    walk format limit text (length text) before_mark text
    (record { good = tt; small = recursion_from_All (λ b. b < 256) text small; whole = refl; within = omega arith }) (omega arith)
