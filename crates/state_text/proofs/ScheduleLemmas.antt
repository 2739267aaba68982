-- Lemmas on how the lines of a schedule are judged.
use Rattle.cif_laws.proofs.Common.{◌≡◌, ℕ, List, [], ◌∷◌, ◌++◌, length, refl, sym, subst, inl, inr, ◌⊎◌, Some, rules, None, ◌+◌, ◌<◌, Bool, true, false, arith}
use Rattle.cif_laws.proofs.Common.{length-append, Option, IsTrue, ◌↔◌, slice_index_or, get_or-append_seam, cases_lt, ScheduleKey, State, IsSchedule}
use Rattle.cif_laws.proofs.Common.{BeginsSchedule, StateCause, bad_body}
use Rattle.state_text.specs.Judged.{IsOfKey}
use Rattle.state_text.specs.Lines.{BeginUpTo, AreLinesIn, AreLinesUpToIn, IsLineRefusal, IsUpToRefusal}

abbrev Lines : Type 0
Lines = List (List ℕ)

-- after one more line is appended, the lines still belong to a schedule with the key, and this schedule still doesn't end before the horizon
pub one_line_more : (state : State) (key : ScheduleKey) (lines : Lines) (line : List ℕ) → (lines ≡ []) ⊎ AreLinesIn state key lines
    → (lines ≡ [] → IsOfKey state.horizon key line)
    → BeginsSchedule (lines ++ line ∷ []) → AreLinesIn state key (lines ++ line ∷ [])
one_line_more state key [] line are first begin = let told = first refl in (record { begin = begin; new = told.new; key_is = told.key_is }, told.stays)
one_line_more state key (basic ∷ lines) line (inl none) first begin = cc
one_line_more state key (basic ∷ lines) line (inr are) first begin = (record { begin = begin; new = are.0.new; key_is = are.0.key_is }, are.1)

-- if no line follows the next line, the next line is the last of `count` lines
pub no_more : (more : Bool) (n count : ℕ) → (IsTrue more ↔ (n + 1 < count)) → n < count → more ≡ false → n + 1 ≡ count
no_more = search (rules, cases_lt)

-- the last of `count` lines is refused if it doesn't complete a schedule
pub incomplete : (count : ℕ) (lines : Lines) (line : List ℕ) (more complete : Bool) → (IsTrue more ↔ (length lines + 1 < count)) → length lines < count
    → more ≡ false
    → (IsTrue complete ↔ IsSchedule (lines ++ line ∷ [])) → complete ≡ false → ¬ BeginUpTo count (lines ++ line ∷ [])
incomplete count lines line more complete tells few none is not_one up_to =
    let size = length-append lines (line ∷ []) in
    let last = no_more more (length lines) count tells few none in
    let whole = is.1 (up_to.complete (omega arith)) in
    cc

-- suppose that some schedule begins with the lines so far and the next line. The next line may
-- come there if it isn't the last line, or if these lines are a whole schedule
pub begin_up_to : (count : ℕ) (lines : Lines) (line : List ℕ) (more : Bool) → (IsTrue more ↔ (length lines + 1 < count)) → BeginsSchedule (lines ++ line ∷ [])
    → (more ≡ true) ⊎ IsSchedule (lines ++ line ∷ []) → BeginUpTo count (lines ++ line ∷ [])
begin_up_to count lines line more tells begin (inl is) = search (rules, length-append)
begin_up_to count lines line more tells begin (inr whole) = record { begin = begin; complete = λ all. whole }

-- suppose that some schedule begins with the lines so far and the next line. The next line may
-- come there if it isn't the last of `count` lines
pub more_up_to : (count : ℕ) (lines : Lines) (line : List ℕ) → length lines + 1 < count → BeginsSchedule (lines ++ line ∷ [])
    → BeginUpTo count (lines ++ line ∷ [])
more_up_to = search (rules, length-append)

-- the last line of the buffer is the line that was written there
pub written_last : (lines after : Lines) (line found : List ℕ) (at : ℕ) → after ≡ lines ++ line ∷ [] → at ≡ length lines → found ≡ slice_index_or after at found
    → found ≡ line
written_last = search (rules, get_or-append_seam)

-- suppose that a line may come next in a schedule of `count` lines. If the lines before it belong to a schedule with the key, these lines and this line are the
-- first lines of such a schedule
pub lines_up_to : (state : State) (key : ScheduleKey) (count : ℕ) (lines : Lines) (line bytes : List ℕ) → line ≡ bytes
    → (lines ≡ []) ⊎ AreLinesIn state key lines → (lines ≡ [] → IsOfKey state.horizon key line)
    → BeginUpTo count (lines ++ line ∷ []) → AreLinesUpToIn state key count (lines ++ bytes ∷ [])
lines_up_to state key count lines line bytes same here first up_to =
    let are = one_line_more state key lines line here first up_to.begin in
    subst (λ b. AreLinesUpToIn state key count (lines ++ b ∷ [])) same (record { lines_of = are.0; complete = up_to.complete }, are.1)

-- suppose that a schedule with the key begins with the lines before the next line. Then a cause for refusing that line is also a cause for refusing it as a
-- line of that schedule
pub line_refused : (state : State) (key : ScheduleKey) (count : ℕ) (lines : Lines) (line bytes : List ℕ) → line ≡ bytes
    → (lines ≡ []) ⊎ AreLinesIn state key lines → (lines ≡ [] → IsOfKey state.horizon key line)
    → (cause : Option StateCause) → IsLineRefusal count lines line cause → IsUpToRefusal state key count lines bytes cause
line_refused state key count lines line bytes same here first None up_to = lines_up_to state key count lines line bytes same here first up_to
line_refused state key count lines line bytes same here first (Some bad_body) refused = λ are.
    let told = subst (λ b. AreLinesUpToIn state key count (lines ++ b ∷ [])) (sym same) are in
    refused (record { begin = told.0.lines_of.begin; complete = told.0.complete })
line_refused state key count lines line bytes same here first _ refused = absurd refused
