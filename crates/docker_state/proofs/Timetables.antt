-- The rows of a timetable are good rows, since all live rows of a valid state are good rows.
use Rattle.cif_laws.proofs.Common.{rules, State, IsValid, live_table}
use Rattle.state_laws.specs.CountedRows.{IsOfGoodRows}
use Rattle.state_laws.proofs.states.CountedRows.{counted_good}
use Rattle.state_laws.proofs.states.GoodBodies.{good_bodies}
use Rattle.docker_state.specs.Live.{live_rows}
use Rattle.docker_state.specs.Timetables.{Timetable, counts, live_in}
use Rattle.docker_state.proofs.LiveTable.{live_ascends, live_walks}

-- the live table of a valid state consists of good rows
of_good_rows : (state : State) → IsValid state → IsOfGoodRows (live_table state)
of_good_rows state valid = record {
  rows = live_rows state.entries;
  are = search (rules, live_ascends, live_walks);
  bodies = good_bodies state valid;
}

-- the table of a timetable over a valid state consists of good rows
pub timetable_good : (timetable : Timetable) → IsValid timetable.state → IsOfGoodRows (live_in timetable)
timetable_good timetable valid = counted_good (counts timetable.permanent) (live_table timetable.state) (of_good_rows timetable.state valid)
