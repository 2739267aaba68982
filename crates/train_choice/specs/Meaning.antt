-- Converts occasions and times from the code's types to the types of the definitions.
use Rattle.std.specs.Prelude.{ℕ, List, ◌++◌}
use Rattle.docker_model.specs.file.Journey.{timed}
use Rattle.docker_model.specs.file.Journey as journey
use Rattle.train_choice.specs.declared.occasion.Occasion.{Occasion}
use Rattle.train_choice.specs.declared.occasion.Occasion.TheVariants.{Arrival, Pass, Joining, Dividing, NextWorking, Departure}
use Rattle.train_choice.specs.declared.times.EventTimes.{EventTimes}

-- converts the code's `Occasion` to the `Occasion` of the definitions
abbrev pub occasion_meant : Occasion → journey.Occasion
occasion_meant Arrival = journey.arrival
occasion_meant Pass = journey.pass
occasion_meant Joining = journey.joining
occasion_meant Dividing = journey.dividing
occasion_meant NextWorking = journey.next_working
occasion_meant Departure = journey.departure

-- converts the times in a line to the definitions' types, in order. Each time is paired with its
-- kind of event
abbrev pub times_meant : EventTimes → List (journey.Occasion × ℕ)
times_meant times = timed journey.arrival times.arrival ++ timed journey.pass times.pass ++ timed journey.departure times.departure
