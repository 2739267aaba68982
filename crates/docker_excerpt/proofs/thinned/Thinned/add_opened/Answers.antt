-- A schedule that is a deletion or doesn't run near the day is handled as a deletion. Of any other
-- schedule, all lines are kept if it may have an event at the place on the day, and otherwise only
-- the basic schedule.
use Rattle.cif_laws.proofs.Common.{◌≡◌, refl, sym, ap, ◌∙◌, Bool, true, false, rules, ◌||◌, not}
use Rattle.cif_file.proofs.FrontLemmas.{on_ok_one}
use Rattle.docker_excerpt.proofs.ThinLemmas.{opened_deletes, opened_whole, opened_elsewhere, first_line, either}
use Rattle.cif_file.specs.KeeperRead.{change_opened}
use Rattle.docker_excerpt.proofs.thinned.Thinned.add_opened.Goals as goal

pub returns-then-is_deletion-runs_near : goal.returns-then-is_deletion-runs_near
returns-then-is_deletion-runs_near c =
    on_ok_one c.delete.result c.delete.ensures
    (λ deleted. λ place day lines renewed read whole near.
    deleted place day (change_opened c.args.opened lines) refl refl refl
    (opened_deletes place day c.args.opened c.args.runs_near lines read whole near
    (either c.args.opened.progress.deletion c.args.runs_near
    (ap (λ test. test || not c.args.runs_near) (sym c.is_deletion.ensures) ∙ c.if-is_deletion-runs_near.true))))

-- if neither `deletion` nor `not runs` is true, both are false
none : (deletion runs test : Bool) → test ≡ deletion → (test || not runs) ≡ false → (deletion ≡ false) × (runs ≡ true)
none = search rules

pub returns-then-may_call_on : goal.returns-then-may_call_on
returns-then-may_call_on c =
    let stays = none c.args.opened.progress.deletion c.args.runs_near c.is_deletion.result c.is_deletion.ensures c.if-is_deletion-runs_near.false in
    on_ok_one c.keep.result c.keep.ensures
    (λ kept. λ place day lines renewed read whole near all has.
    kept place day (change_opened c.args.opened lines) refl
    (opened_whole place day c.args.opened c.args.runs_near lines read whole near stays.0 stays.1 c.args.self.now has.place_is has.day_is
    _ renewed _ c.may_call_on.ensures _ c.in_ok-body.ensures c.if-may_call_on.true) all has)

pub returns : goal.returns
returns c =
    let stays = none c.args.opened.progress.deletion c.args.runs_near c.is_deletion.result c.is_deletion.ensures c.if-is_deletion-runs_near.false in
    on_ok_one c.keep_elsewhere.result c.keep_elsewhere.ensures
    (λ kept. λ place day lines renewed read whole near all has.
    kept place day (change_opened c.args.opened lines) refl
    (opened_elsewhere place day c.args.opened c.args.runs_near lines read whole near stays.0 stays.1 c.args.self.now has.place_is has.day_is
    _ renewed _ c.may_call_on.ensures _ (first_line _ _ c.in-Some.ensures.value) c.if-may_call_on.false) all has)
