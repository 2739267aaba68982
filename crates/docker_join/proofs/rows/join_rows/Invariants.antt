use Rattle.cif_laws.proofs.Common.{◌+◌, ◌≤◌, vec_len, deque_len}
use Rattle.std.specs.VecDeque.{deque_capacity}
use Rattle.docker_join.specs.Rows.{AreAscending}
use Rattle.docker_join.specs.Placing.{left_rows, IsJoinWith}
use Rattle.docker_join.proofs.rows.join_rows.Given as goal

abbrev pub invariant-loop-row : goal.invariant-loop-row
invariant-loop-row g l = record {
  left : l.left ≤ deque_len l.rows;
  room : deque_len l.rows + vec_len l.second ≤ deque_capacity l.rows;
  own : AreAscending (left_rows l.left l.rows.items);
  rest : AreAscending l.second.items;
  joined : IsJoinWith g.E.Pick.picked l.fn.first.items l.fn.second.items l.left l.rows.items l.second.items;
}

abbrev pub decreases-loop-row : goal.decreases-loop-row
decreases-loop-row g l = vec_len l.second
