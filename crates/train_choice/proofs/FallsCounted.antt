-- `falls_among` returns how often a train passes midnight before the event with a given number. In
-- these lemmas, `falls` is this number of midnights.
use Rattle.cif_laws.proofs.Common.{◌≡◌, ℕ, ◌≤◌, ◌==◌, List, [], ◌∷◌, ap, sym, ◌∙◌, subst, refl, Some, None, Contains, eqb-true, Bool, map, arith, rules, Option}
use Rattle.cif_laws.proofs.Common.{option_map, find, ◌↔◌, IfSome, Event, events_of, falls_to}
use Rattle.std.specs.Prelude.{IsSome}
use Rattle.cif_laws.proofs.lists.FilteredMembers.{find_some, find_none}
use Rattle.docker_laws.proofs.dockers.ScheduleLines.{number_itself}
use Rattle.train_choice.specs.Occurrences.{Occurrence, occurrence_of, occurrences}
use Rattle.train_choice.specs.Falls.{falls_among}

-- says that the schedule has an event with this number
abbrev pub HasNumber : List (List ℕ) → ℕ → Type 0
HasNumber lines number = (event : Event) × Contains (events_of lines) event × (event.number ≡ number)

-- a search among mapped elements finds the mapped element that a search among the elements finds
pub find_mapped : {A B : Type 0} (f : A → B) (p : B → Bool) (xs : List A) → find p (map f xs) ≡ option_map f (find (λ x. p (f x)) xs)
find_mapped f p [] = refl
find_mapped f p (x ∷ xs) = grind (arith, (find_mapped f p xs))

-- what `falls_among` returns follows from the first event with this number
abbrev IsTold : List (List ℕ) → ℕ → Option ℕ → Type 0
IsTold lines number falls = (IsSome falls ↔ HasNumber lines number) × IfSome falls (λ n. n ≡ falls_to lines number)

told_by : (lines : List (List ℕ)) (number : ℕ) (found : Option Event) → find (λ (e : Event). e.number == number) (events_of lines) ≡ found
    → IsTold lines number (option_map (λ (e : Occurrence). e.falls) (option_map (occurrence_of lines) found))
told_by lines number None none =
    let back = λ (there : HasNumber lines number). sym (find_none (λ (e : Event). e.number == number) (events_of lines) there.0 none there.1)
    ∙ ap (λ (n : ℕ). there.0.number == n) (sym there.2) ∙ number_itself there.0.number in
    ((λ some. let never : ⊥ = cc in absurd never, back), tt)
told_by lines number (Some event) some = search (rules, find_some, eqb-true)

told : (lines : List (List ℕ)) (number : ℕ) (falls : Option ℕ) → falls ≡ falls_among number (occurrences lines) → IsTold lines number falls
told lines number falls is = subst (IsTold lines number) (sym (is ∙ ap (option_map (λ (e : Occurrence). e.falls))
    (find_mapped (occurrence_of lines) (λ (e : Occurrence). e.number == number) (events_of lines)))) (told_by lines number _ refl)

-- `falls_among` returns `Some` if and only if the schedule has an event with this number
pub falls_there : (lines : List (List ℕ)) (number : ℕ) (falls : Option ℕ) → falls ≡ falls_among number (occurrences lines)
    → IsSome falls ↔ HasNumber lines number
falls_there lines number falls is = (told lines number falls is).0

-- if `falls_among` returns a number, the train passes midnight that many times before the event
pub falls_are : (lines : List (List ℕ)) (number : ℕ) (falls : Option ℕ) → falls ≡ falls_among number (occurrences lines)
    → IfSome falls (λ n. n ≡ falls_to lines number)
falls_are lines number falls is = (told lines number falls is).1

-- suppose that the train passes midnight at most twice before any event. If `falls_among` returns
-- a number, this number is at most two
pub falls_few : (lines : List (List ℕ)) (number falls : ℕ) → falls_among number (occurrences lines) ≡ Some falls → ((n : ℕ) → falls_to lines n ≤ 2) → falls ≤ 2
falls_few lines number falls found few = subst (λ (n : ℕ). n ≤ 2) (sym (told lines number (Some falls) (sym found)).1) (few number)
