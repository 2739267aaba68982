use Rattle.cif_laws.proofs.Common.{sym, ◌∙◌}
use Rattle.train_choice.proofs.Late.{first_good, rest_good, goes_on}
use Rattle.train_choice.proofs.midnights.falls_along.Goals as goal

pub ascending_to-requires : goal.ascending_to-requires
ascending_to-requires c = record {
  good = first_good c.loop-line.behind.now c.in-Some.rest.now c.in-Some.line.now c.loop-line.invariant.good c.in-Some.ensures.cases.0;
}

pub loop-line-preserved : goal.loop-line-preserved
loop-line-preserved c = record {
  same = goes_on _ _ _ _ _ c.in-Some.ensures.cases.0 (sym c.ascending_to.ensures ∙ c.in-Some-ascending_to.is)
      ∙ c.loop-line.invariant.same;
  good = rest_good _ _ _ c.loop-line.invariant.good c.in-Some.ensures.cases.0;
}
