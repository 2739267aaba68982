-- How often a train passes midnight before the event with a given number.
use Rattle.std.specs.Prelude.{ℕ, ◌==◌, List, Option, option_map, find}
use Rattle.train_choice.specs.Occurrences.{Occurrence}

-- how often the train passes midnight before the event with this number. The result is `None` if no
-- event in the list has the number
abbrev pub falls_among : ℕ → List Occurrence → Option ℕ
falls_among number events = option_map (λ (event : Occurrence). event.falls) (find (λ (event : Occurrence). event.number == number) events)
