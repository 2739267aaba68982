use Rattle.state_lists.specs.Tallies.{IsTallyOf}
use Rattle.state_lists.proofs.TallyLemmas.{live_up_to}
use Rattle.state_lists.proofs.tally.tally_of.Given as goal

-- the tally counts the rows before the current row
abbrev pub invariant-loop-row : goal.invariant-loop-row
invariant-loop-row l = record {
  counted : IsTallyOf (live_up_to l.row-index l.rows) l.tally;
}
