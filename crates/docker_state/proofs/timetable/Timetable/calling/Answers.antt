use Rattle.cif_laws.proofs.Common.{List, sym, subst, IsValid, live_table, Row}
use Rattle.state_laws.specs.Index.{AreCalling}
use Rattle.state_laws.specs.CountedRows.{counted_table}
use Rattle.state_laws.proofs.states.CountedRows.{counted_calling}
use Rattle.docker_state.specs.Timetables.{Timetable, counts, live_in}
use Rattle.docker_state.proofs.Timetables.{timetable_good}
use Rattle.docker_state.proofs.timetable.Timetable.calling.Goals as goal

pub returns-clause-rows : goal.returns-clause-rows
returns-clause-rows c =
    let live = live_table c.self.inside.state.now in
    let place = c.args.tiploc.now in
    subst (λ (t : Timetable). AreCalling (live_in t) place c.of.result) c.self.view_is
    (subst (λ (rows : List Row). AreCalling (counted_table (counts c.self.inside.permanent) live) place rows) (sym c.of.ensures)
    (counted_calling _ _ _ _ c.calling.ensures))

pub returns-clause-good : goal.returns-clause-good
returns-clause-good c = timetable_good _ (subst (λ (t : Timetable). IsValid t.state) c.self.view_is c.self.invariant)
