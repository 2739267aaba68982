-- Whether a train passes midnight, computed from the times of its schedule.
use Rattle.std.specs.Prelude.{ℕ, Bool, true, false, not, ◌==◌, ◌||◌, nat_lt, if◌then◌else◌, List, [], ◌∷◌, Option, Some, None}
use Rattle.docker_model.specs.file.Journey.{Occasion, times_of}
use Rattle.train_choice.specs.Occurrences.{Occurrence}

-- whether the train passes midnight before some event in the list
abbrev pub some_late : List Occurrence → Bool
some_late [] = false
some_late (event ∷ events) = not (event.falls == 0) || some_late events

-- the last of these times, or `last` if the list is empty. The result is `None` if a time is below
-- the preceding time, where `last` precedes the first time. For example, if `last` is 3, the result
-- is 6 for the times 4 and 6, and `None` for the times 4 and 2
abbrev pub ascends : ℕ → List (Occasion × ℕ) → Option ℕ
ascends last [] = Some last
ascends last (time ∷ times) = if nat_lt time.1 last then None else ascends time.1 times

-- whether midnight is passed in a line or in the lines after it. The first argument is `None` if
-- midnight is passed in the line. Otherwise it is the line's last time, from which `more` computes
-- whether midnight is passed in the later lines
abbrev pub falls_after : Option ℕ → (ℕ → Bool) → Bool
falls_after None more = true
falls_after (Some last) more = more last

-- whether some time in these lines is below the preceding time, where `last` precedes the first
-- time
abbrev pub falls_along : ℕ → List (List ℕ) → Bool
falls_along last [] = false
falls_along last (line ∷ lines) = falls_after (ascends last (times_of line)) (λ time. falls_along time lines)
