use Rattle.cif_laws.proofs.Common.{◌≡◌, length}
use Rattle.docker_state.specs.Timetables.{live_in}
use Rattle.train_choice.specs.Along.{AreGoodRows, AreLive}
use Rattle.docker_day.specs.Portions.{HaveMoved}
use Rattle.docker_day.proofs.portions.add_rows.Given as goal

-- the lines so far, followed by the lines of the remaining rows, are the lines at the start,
-- followed by the lines of all rows
abbrev pub invariant-portions : goal.invariant-portions
invariant-portions l = record {
  good : AreGoodRows l.rows;
  live : AreLive (live_in l.visits.timetable) l.rows;
  same : l.visits ≡ l.fn.visits;
  all : HaveMoved l.fn.visits l.fn.rows l.rows l.fn.lines.items l.lines.items;
}

abbrev pub decreases-portions : goal.decreases-portions
decreases-portions l = length l.rows
