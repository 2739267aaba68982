use Rattle.cif_laws.proofs.Common.{◌≡◌, length}
use Rattle.state_laws.specs.CountedRows.{counted_rows}
use Rattle.docker_state.specs.Timetables.{counts}
use Rattle.docker_state.proofs.timetable_rows.TimetableRowsIterator.next.Given as goal

abbrev pub invariant-loop-row : goal.invariant-loop-row
invariant-loop-row l =
    counted_rows (counts l.initial.self-inside.permanent) l.initial.self-inside.rows ≡ counted_rows (counts l.self-inside.permanent) l.self-inside.rows

abbrev pub decreases-loop-row : goal.decreases-loop-row
decreases-loop-row l = length l.self-inside.rows
