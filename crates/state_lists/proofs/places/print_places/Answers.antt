use Rattle.cif_laws.proofs.Common.{ap, ◌+◌, ◌∙◌, refl}
use Rattle.docker_state.specs.Live.{live_rows}
use Rattle.state_lists.proofs.Lines.{kept_line, list_begun, list_taken}
use Rattle.docker_day.proofs.Written.{none_failed, on_any_err, one_failed, leads_first, leads_on, leads_part, leads_last}
use Rattle.state_lists.proofs.places.print_places.Goals as goal

pub loop-row-init : goal.loop-row-init
loop-row-init g c = record {
  leads = leads_first (kept_line (live_rows c.args.state.now.entries)) c.entries-rows.result.now (g.K.Sink.taken c.args.sink.now);
  no_failure = refl;
}

pub loop-row-preserved : goal.loop-row-preserved
loop-row-preserved g c = record {
  leads = leads_on _ _ _ _ _ _ _ _ c.loop-row-test.true c.row-item.is refl c.loop-row.invariant.leads c.in_ok-write_row.ensures.whole;
  no_failure = c.in_ok-write_row.ensures.no_failure ∙ c.loop-row.invariant.no_failure;
}

pub returns-in_err-write_row-clause-part : goal.returns-in_err-write_row-clause-part
returns-in_err-write_row-clause-part g c = on_any_err _ (list_begun _ c.entries-rows.ensures.valid _ c.entries-rows.ensures.rows _ _ (leads_part _ _ _ _ _ _
    _ _ c.loop-row-test.true c.row-item.is refl c.loop-row.invariant.leads c.in_err-write_row.ensures.part))

pub returns-clause-whole : goal.returns-clause-whole
returns-clause-whole g c = list_taken _ c.entries-rows.ensures.valid _ c.entries-rows.ensures.rows _ _ (leads_last _ _ _ _
    _ c.loop-row-test.false c.loop-row.invariant.leads)

pub returns-in_err-write_row-clause-failures : goal.returns-in_err-write_row-clause-failures
returns-in_err-write_row-clause-failures g c = one_failed _ _ _ _ c.from_residual.ensures.1
    (c.in_err-write_row.ensures.counted ∙ ap (λ n. n + 1) c.loop-row.invariant.no_failure)

pub returns-clause-failures : goal.returns-clause-failures
returns-clause-failures g c = none_failed _ _ c.loop-row.invariant.no_failure
