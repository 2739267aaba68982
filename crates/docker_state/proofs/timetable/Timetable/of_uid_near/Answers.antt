use Rattle.cif_laws.proofs.Common.{List, sym, subst, IsValid, live_table, Row}
use Rattle.state_laws.specs.Index.{AreOfUid}
use Rattle.state_laws.specs.CountedRows.{counted_table}
use Rattle.state_laws.proofs.states.CountedRows.{counted_of_uid}
use Rattle.docker_state.specs.Timetables.{Timetable, counts, live_in}
use Rattle.docker_state.proofs.Timetables.{timetable_good}
use Rattle.docker_state.proofs.timetable.Timetable.of_uid_near.Goals as goal

pub returns-clause-rows : goal.returns-clause-rows
returns-clause-rows c =
    let live = live_table c.self.inside.state.now in
    let place = c.args.uid.now in
    subst (λ (t : Timetable). AreOfUid (live_in t) place c.of.result) c.self.view_is
    (subst (λ (rows : List Row). AreOfUid (counted_table (counts c.self.inside.permanent) live) place rows)
    (sym (c.of.ensures)) (counted_of_uid (counts c.self.inside.permanent) live place c.of_uid_near.result c.of_uid_near.ensures))

pub returns-clause-good : goal.returns-clause-good
returns-clause-good c = timetable_good _ (subst (λ (t : Timetable). IsValid t.state) c.self.view_is c.self.invariant)
