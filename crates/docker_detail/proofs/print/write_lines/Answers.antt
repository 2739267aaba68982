use Rattle.cif_laws.proofs.Common.{ap, ◌+◌, ◌∙◌, refl, detailed_line, ended}
use Rattle.docker_detail.specs.Finding.{Detailed}
use Rattle.docker_day.proofs.Written.{none_failed, on_any_err, one_failed, leads_first, leads_on, leads_part, leads_last}
use Rattle.docker_detail.proofs.print.write_lines.Goals as goal

pub loop-line-init : goal.loop-line-init
loop-line-init g c = record {
  leads = leads_first (λ (line : Detailed). ended (detailed_line line)) c.args.lines.now (g.K.Sink.taken c.args.sink.now);
  no_failure = refl;
}

pub loop-line-preserved : goal.loop-line-preserved
loop-line-preserved g c = record {
  leads = leads_on _ _ _ _ _ _ _ _
      c.loop-line-test.true c.line-item.is (c.as_slice.ensures.value ∙ c.text_of_detailed.ensures) c.loop-line.invariant.leads c.in_ok-write_all.ensures.whole;
  no_failure = c.in_ok-write_all.ensures.no_failure ∙ c.loop-line.invariant.no_failure;
}

pub returns-in_err-write_all-clause-part : goal.returns-in_err-write_all-clause-part
returns-in_err-write_all-clause-part g c = on_any_err _ (leads_part _ _ _ _ _ _ _ _
    c.loop-line-test.true c.line-item.is (c.as_slice.ensures.value ∙ c.text_of_detailed.ensures) c.loop-line.invariant.leads c.in_err-write_all.ensures.part)

pub returns-clause-whole : goal.returns-clause-whole
returns-clause-whole g c = leads_last _ _ _ _ _ c.loop-line-test.false c.loop-line.invariant.leads

pub returns-in_err-write_all-clause-failures : goal.returns-in_err-write_all-clause-failures
returns-in_err-write_all-clause-failures g c = one_failed _ _ _ _ c.from_residual.ensures.1
    (c.in_err-write_all.ensures.counted ∙ ap (λ n. n + 1) c.loop-line.invariant.no_failure)

pub returns-clause-failures : goal.returns-clause-failures
returns-clause-failures g c = none_failed _ _ c.loop-line.invariant.no_failure
