use Rattle.cif_laws.proofs.Common.{◌≡◌, ◌+◌, ◌-◌, ◌<◌, ◌≤◌, true, deque_len}
use Rattle.cif_change.specs.declared.key.Key.{Key}
use Rattle.cif_change.specs.Meaning.{key_meant}
use Rattle.docker_join.specs.Placing.{is_above_at}
use Rattle.docker_join.proofs.rows.run_above.Given as goal

abbrev pub invariant-loop-high : goal.invariant-loop-high
invariant-loop-high g l = record {
  order : l.low < l.high;
  within : l.low ≤ l.left;
  above : (d : Key × g.row.E.Denot) → 0 < l.low → is_above_at (key_meant l.key) l.rows.items (deque_len l.rows) l.low d ≡ true;
}

abbrev pub decreases-loop-high : goal.decreases-loop-high
decreases-loop-high g l = l.left + 1 - l.high
