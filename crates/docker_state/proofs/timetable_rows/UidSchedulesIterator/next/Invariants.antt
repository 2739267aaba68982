use Rattle.cif_laws.proofs.Common.{◌≡◌, length}
use Rattle.state_laws.specs.CountedRows.{counted_rows}
use Rattle.docker_state.specs.Timetables.{counts}
use Rattle.docker_state.proofs.timetable_rows.UidSchedulesIterator.next.Given as goal

abbrev pub invariant-loop-key : goal.invariant-loop-key
invariant-loop-key l =
    counted_rows (counts l.initial.self-inside.permanent) l.initial.self-inside.rows ≡ counted_rows (counts l.self-inside.permanent) l.self-inside.rows

abbrev pub decreases-loop-key : goal.decreases-loop-key
decreases-loop-key l = length l.self-inside.rows
