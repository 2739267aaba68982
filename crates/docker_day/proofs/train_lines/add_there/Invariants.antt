use Rattle.cif_laws.proofs.Common.{◌≡◌, ◌++◌}
use Rattle.train_choice.specs.UpTo.{occurrences_to}
use Rattle.docker_day.specs.Details.{detail_meant}
use Rattle.docker_day.specs.Lines.{lines_there}
use Rattle.docker_day.proofs.train_lines.add_there.Given as goal

-- the lines so far, followed by the lines of the remaining events, are the lines at the start,
-- followed by the lines of all events
abbrev pub invariant-loop-event : goal.invariant-loop-event
invariant-loop-event l =
    l.lines.items ++ lines_there l.place l.day l.start l.train.key (detail_meant l.detail) l.event-iterator
    ≡ l.initial.lines.items ++ lines_there l.place l.day l.start l.train.key (detail_meant l.detail) (occurrences_to l.place l.train.lines)
