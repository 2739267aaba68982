use Rattle.cif_laws.proofs.Common.{◌≡◌, ◌+◌, ◌-◌, ◌<◌, ◌≤◌, true, false, deque_len}
use Rattle.cif_change.specs.declared.key.Key.{Key}
use Rattle.cif_change.specs.Meaning.{key_meant}
use Rattle.docker_join.specs.Placing.{is_above_at}
use Rattle.docker_join.proofs.rows.run_between.Given as goal

abbrev pub invariant-loop-low : goal.invariant-loop-low
invariant-loop-low g l = record {
  order : l.low ≤ l.high;
  within : l.high ≤ l.fn.high;
  above : (d : Key × g.row.E.Denot) → 0 < l.low → is_above_at (key_meant l.key) l.rows.items (deque_len l.rows) l.low d ≡ true;
  below : (d : Key × g.row.E.Denot) → l.high < l.fn.high → is_above_at (key_meant l.key) l.rows.items (deque_len l.rows) (l.high + 1) d ≡ false;
}

abbrev pub decreases-loop-low : goal.decreases-loop-low
decreases-loop-low g l = l.high - l.low
