use Rattle.cif_laws.proofs.Common.{◌^◌, ◌<◌, length, rules, subst, sym, List, Row}
use Rattle.state_lists.specs.Tallies.{IsTallyOf}
use Rattle.state_lists.proofs.TallyLemmas.{are_few, live_more, live_up_to, no_rows, tally_all}
use Rattle.state_lists.proofs.tally.tally_of.Goals as goal

pub with_row-tally-requires : goal.with_row-tally-requires
with_row-tally-requires c =
    let short : length c.args.rows.now < 2 ^ 63 = search rules in
    are_few c.loop-row.row-index c.args.rows.now c.loop-row.tally c.loop-row.invariant.counted short

pub loop-row-init : goal.loop-row-init
loop-row-init c = record { counted = no_rows c.args.rows.now }

pub loop-row-preserved : goal.loop-row-preserved
loop-row-preserved c = record {
  counted = subst (λ (all : List Row). IsTallyOf all c.with_row-tally.result) (sym (live_more _ _ _ c.loop-row-test.true c.row-item.is))
      (c.with_row-tally.ensures (live_up_to c.loop-row.row-index c.args.rows.now) c.loop-row.invariant.counted);
}

pub returns : goal.returns
returns c = tally_all c.args.rows.now c.loop-row.row-index c.loop-row.tally c.loop-row-test.false c.loop-row.invariant.counted
