-- The changes of a record that is a unit by itself: a TIPLOC record or an association.
use Rattle.std.specs.Prelude.{◌≡◌, Bool, true, false, List, [], ◌∷◌, Option, Some, None, IfSome}
use Rattle.docker_model.specs.file.Change.{Change, Act, put, schedule_body}
use Rattle.cif_change.specs.declared.change.Change as code
use Rattle.cif_change.specs.Meaning.{change_meant}
use Rattle.cif_file.specs.declared.keeper.single.SingleChanges.{SingleChanges}

-- the list of the first change, if there is one, and the last change
abbrev pub listed_after : Option code.Change → Change → List Change
listed_after None last = last ∷ []
listed_after (Some first) last = change_meant first ∷ last ∷ []

-- the one or two changes, in the order in which they are made
abbrev pub listed : SingleChanges → List Change
listed changes = listed_after changes.first (change_meant changes.last)

-- whether an act puts the lines of a schedule
abbrev pub puts_schedule : Act → Bool
puts_schedule (put (schedule_body lines)) = true
puts_schedule _ = false

-- Says that a change puts no schedule.
abbrev pub PutsNoSchedule : Change → Type 0
PutsNoSchedule change = puts_schedule change.act ≡ false

-- Says that neither change puts a schedule.
abbrev pub PutNoSchedules : SingleChanges → Type 0
PutNoSchedules changes = IfSome changes.first (λ first. PutsNoSchedule (change_meant first)) × PutsNoSchedule (change_meant changes.last)
