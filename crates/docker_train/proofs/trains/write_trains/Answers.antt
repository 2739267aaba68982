use Rattle.cif_laws.proofs.Common.{◌+◌, ◌∙◌, ap, refl, subst, sym, live_table}
use Rattle.cif_device.specs.Device.{Takes, TakesPart}
use Rattle.state_laws.proofs.states.GoodBodies.{good_bodies}
use Rattle.train_choice.specs.Along.{AreGoodRows, AreLive}
use Rattle.docker_day.proofs.Written.{none_failed, on_any_err, one_failed}
use Rattle.docker_train.proofs.WrittenRows.{list_begun, list_taken, live_told, row_told, rows_first}
use Rattle.docker_train.proofs.WrittenRows.{rows_good, rows_last, rows_live, rows_on, rows_part, walk_is}
use Rattle.docker_train.proofs.trains.write_trains.Goals as goal

pub loop-key-init : goal.loop-key-init
loop-key-init g c =
    let state = c.args.state.now in
    let same = c.into_iter-key-iterator.ensures.into_iter_gives ∙ c.live-key-items.ensures.rows in
    let are = walk_is _ _ _ (sym c.into_iter-key-iterator.ensures.into_iter_gives) c.live-key-items.ensures.ascending c.live-key-items.ensures.table in
    let live = rows_live _ _ (λ key body. (are.members key body).0) in
    record {
      same = c.of-listing.ensures;
      good = rows_good _ _ (good_bodies _ c.entries-entries.ensures.valid) live;
      live = live;
      leads = rows_first _ _ _ _ same;
      no_failure = refl;
    }

pub write_row-requires-clause-good : goal.write_row-requires-clause-good
write_row-requires-clause-good g c = (subst AreGoodRows c.in-Some.ensures.steps c.loop-key.invariant.good).0

pub write_row-requires-clause-live : goal.write_row-requires-clause-live
write_row-requires-clause-live g c = live_told _ _ _ _ _ _
    c.loop-key.invariant.same (subst (AreLive (live_table c.args.state.now)) c.in-Some.ensures.steps c.loop-key.invariant.live).0

pub loop-key-preserved : goal.loop-key-preserved
loop-key-preserved g c = record {
  same = c.write_row.ensures.same ∙ c.loop-key.invariant.same;
  good = (subst AreGoodRows c.in-Some.ensures.steps c.loop-key.invariant.good).1;
  live = (subst (AreLive (live_table c.args.state.now)) c.in-Some.ensures.steps c.loop-key.invariant.live).1;
  leads = rows_on _ _ _ _ _ _ _ _ c.in-Some.ensures.steps c.loop-key.invariant.leads
      (row_told (λ bytes. Takes (g.K.Sink.taken c.loop-key.sink) bytes (g.K.Sink.taken c.write_row.new.sink)) _ _ _ _ _ _ c.loop-key.invariant.same
      (walk_is _ _ _ c.live-key-items.ensures.rows c.live-key-items.ensures.ascending c.live-key-items.ensures.table) c.in_ok-write_row.ensures.whole);
  no_failure = c.in_ok-write_row.ensures.no_failure ∙ c.loop-key.invariant.no_failure;
}

pub returns-in_err-write_row-clause-part : goal.returns-in_err-write_row-clause-part
returns-in_err-write_row-clause-part g c =
    let are = walk_is _ _ _ c.live-key-items.ensures.rows c.live-key-items.ensures.ascending c.live-key-items.ensures.table in
    on_any_err _ (list_begun c.args.state.now _ are _ _ _ _ (rows_part _ _ _ _ _ _ _ _ c.in-Some.ensures.steps c.loop-key.invariant.leads
    (row_told (λ bytes. TakesPart (g.K.Sink.taken c.loop-key.sink) bytes (g.K.Sink.taken c.write_row.new.sink)) _ _ _ _ _ _ c.loop-key.invariant.same are
    c.in_err-write_row.ensures.part)))

pub returns-in_err-write_row-clause-failures : goal.returns-in_err-write_row-clause-failures
returns-in_err-write_row-clause-failures g c = one_failed _ _ _ _ c.from_residual.ensures.1
    (c.in_err-write_row.ensures.counted ∙ ap (λ n. n + 1) c.loop-key.invariant.no_failure)

pub returns-clause-whole : goal.returns-clause-whole
returns-clause-whole g c =
    list_taken c.args.state.now _ (walk_is _ _ _ c.live-key-items.ensures.rows c.live-key-items.ensures.ascending c.live-key-items.ensures.table)
    _ _ _ _ (rows_last _ _ _ _ _ c.in-None.ensures.steps.0 c.loop-key.invariant.leads)

pub returns-clause-failures : goal.returns-clause-failures
returns-clause-failures g c = none_failed _ _ c.loop-key.invariant.no_failure
