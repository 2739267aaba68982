-- Properties of a walk that are preserved when the walk moves to the next line.
use Rattle.cif_laws.proofs.Common.{◌≡◌, ℕ, ◌+◌, ◌*◌, ◌≤◌, List, [], ◌∷◌, length, ap, ◌∙◌, refl, arith, rules, Occasion, times_of}
use Rattle.train_choice.specs.Meaning.{times_meant}
use Rattle.train_choice.specs.Occurrences.{Progress, turned, occurrences_at}
use Rattle.train_choice.specs.EventWalk.{progress_of, events_here, progress_after_line, events_left, HasRoom, CanWalk}
use Rattle.train_choice.specs.declared.walk.EventWalk.{EventWalk}
use Rattle.train_choice.proofs.Late.{rest_good}

no_times : (p : Progress) (line : List ℕ) (times : List (Occasion × ℕ)) → occurrences_at p line times ≡ [] → times ≡ []
no_times p line [] none = refl
no_times p line (time ∷ times) none = absurd (let bad : occurrences_at p line (time ∷ times) ≡ [] = none in cc)

-- if the current line has no further events, the remaining events are the events of the next line
-- and of all later lines
pub goes_on : (before ended after : EventWalk) (lines rest : List (List ℕ)) (line : List ℕ) → lines ≡ line ∷ rest → events_here before ≡ []
    → events_here ended ≡ [] → progress_after_line ended ≡ progress_after_line before → after.line.now ≡ line → times_meant after.times ≡ times_of line
    → progress_of after ≡ turned (progress_of ended) line
    → events_left before lines ≡ events_left after rest
goes_on = search (rules, no_times)

-- after the walk has moved to the next line, it can continue over the remaining lines
pub still_can : (before ended after : EventWalk) (lines rest : List (List ℕ)) (line : List ℕ) → lines ≡ line ∷ rest → CanWalk before lines
    → ((more : ℕ) → HasRoom before more → HasRoom ended more) → length (times_meant after.times) ≤ 3 → progress_of after ≡ turned (progress_of ended) line
    → CanWalk after rest
still_can before ended after lines rest line is can room few progress =
    let roomy = room (3 * length lines) can.room in
    let bound = roomy.bound in
    let below = roomy.few in
    let number : after.number ≡ ended.number = ap (λ (p : Progress). p.number) progress in
    let falls : after.falls ≡ ended.falls = ap (λ (p : Progress). p.falls) progress in
    let long : length lines ≡ length rest + 1 = ap length is ∙ (let e : length (line ∷ rest) ≡ length rest + 1 = omega arith in e) in
    record {
      good = rest_good lines rest line can.good is;
      room = record { bound = omega arith; few = omega arith };
    }
