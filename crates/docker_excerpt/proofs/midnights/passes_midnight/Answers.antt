-- Each line's times follow the times of the lines before it.
use Rattle.cif_laws.proofs.Common.{◌∙◌}
use Rattle.docker_excerpt.proofs.MidnightLemmas.{rest_good, past_first, past_last, none_by, midnights_told}
use Rattle.docker_excerpt.proofs.midnights.passes_midnight.Goals as goal

pub loop-line-preserved : goal.loop-line-preserved
loop-line-preserved c = record {
  same = λ all. past_first _ _ _ _ _ _ c.in-Some.ensures.cases.0 (c.loop-line.invariant.good all) c.past_line-last.ensures (c.loop-line.invariant.same all);
  good = λ all. rest_good _ _ _ c.in-Some.ensures.cases.0 (c.loop-line.invariant.good all);
}

pub returns : goal.returns
returns c = λ all.
    none_by c.loop-line.last c.is_none.result c.is_none.ensures
    ∙ midnights_told c.args.lines.now c.loop-line.last
    (past_last c.loop-line.last c.loop-line.behind.now c.in_default.ensures.cases ∙ c.loop-line.invariant.same all)
